-- The slots of what is right before a transaction, one after the other.
use Rattle.std.proofs.Common.{ℕ, ◌+◌, ◌≡◌, ◌<◌, ◌++◌, ◌∙◌, List, [], ◌∷◌, Option, None, Some, length, get_or, take, refl, sym, ap, append_assoc}
use Rattle.std.specs.List.{cons_option, filter_map}
use Rattle.std.specs.Option.{option_to_list}
use Rattle.std.proofs.lemmas.List.{take_more}
use Rattle.std.proofs.lemmas.List.Elements.{filter_map-append}
use Rattle.tcc_forget.specs.declared.slots.SlotReading.{SlotReading}

pub append_none : (xs : List ℕ) → xs ≡ xs ++ []
append_none [] = refl
append_none (x ∷ xs) = ap (λ z. x ∷ z) (append_none xs)

one_source : (o : Option ℕ) → option_to_list o ≡ cons_option o []
one_source None = refl
one_source (Some k) = refl

-- the sources of the first reads, and of one more
pub sources_more : (first now : List ℕ) (reads : List SlotReading) (i : ℕ) (read : SlotReading) → i < length reads → read ≡ get_or reads i read
    → now ≡ first ++ filter_map (λ r. r.source) (take i reads)
    → now ++ option_to_list read.source ≡ first ++ filter_map (λ r. r.source) (take (i + 1) reads)
sources_more first now reads i read inside is so_far =
    ap (λ z. z ++ option_to_list read.source) so_far
    ∙ append_assoc first (filter_map (λ r. r.source) (take i reads)) (option_to_list read.source)
    ∙ ap (λ z. first ++ z)
    (ap (λ z. filter_map (λ r. r.source) (take i reads) ++ z) (one_source read.source)
    ∙ ap (λ (z : SlotReading). filter_map (λ r. r.source) (take i reads) ++ filter_map (λ r. r.source) (z ∷ [])) is
    ∙ sym (filter_map-append (λ r. r.source) (take i reads) (get_or reads i read ∷ []))
    ∙ ap (λ z. filter_map (λ r. r.source) z) (sym (take_more reads i read inside)))
