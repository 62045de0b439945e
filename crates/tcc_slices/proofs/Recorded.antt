-- The records of one session more.
use Rattle.std.proofs.Common.{◌≡◌, ◌<◌, ◌+◌, ◌++◌, ℕ, List, [], ◌∷◌, length, get_or, take, sym, ap, ◌∙◌, arith}
use Rattle.std.specs.Prelude.{flat_map}
use Rattle.std.specs.Global.{Vec}
use Rattle.std.proofs.lemmas.List.{append-nil, get_or-map, length-map, take_more}
use Rattle.std.proofs.lemmas.List.Concat.{flat_map-append}
use Rattle.tcc_txn.specs.Snapshots.{parts_of}
use Rattle.tcc_txn.specs.Transactions.{Transaction}
use Rattle.tcc_slices.specs.Texts.{session_text}

abbrev seen : List ℕ × Vec Transaction → List ℕ × List Transaction
seen part = (part.0, part.1.items)

pub part_more : (parts : List (List ℕ × Vec Transaction)) (i : ℕ) (part : List ℕ × Vec Transaction) → i < length parts → part ≡ get_or parts i part
    → flat_map session_text (take (i + 1) (parts_of parts)) ≡ flat_map session_text (take i (parts_of parts)) ++ session_text (part.0, part.1.items)
part_more parts i part inside here =
    ap (flat_map session_text) (take_more (parts_of parts) i (seen part) (omega (arith, inside, length-map parts seen)))
    ∙ (flat_map-append session_text (take i (parts_of parts)) (get_or (parts_of parts) i (seen part) ∷ [])
    ∙ ap (λ z. flat_map session_text (take i (parts_of parts)) ++ z)
    (append-nil (session_text (get_or (parts_of parts) i (seen part))) ∙ ap session_text (get_or-map seen parts i part (seen part) inside ∙ ap seen (sym here))))
