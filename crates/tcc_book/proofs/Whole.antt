-- A map with which all passes agree, and whose sessions all have passes, is what the passes recorded.
use Rattle.std.proofs.Common.{◌≡◌, ℕ, All, Bool, true, false, not, ◌||◌, List, [], ◌∷◌, map, find, Option, None, Some, refl, sym, ap, ◌∙◌, is_some, true≢false}
use Rattle.std.specs.FinMap as finite
use Rattle.std.specs.Cmp.Lexicographic.{nat_list_cmp_total, texts_ties}
use Rattle.std.specs.List.{list_any}
use Rattle.std.specs.Ordering.{is_eq}
use Rattle.std.proofs.lemmas.List.Elements.{All-head, All-tail}
use Rattle.std.proofs.lemmas.Map.Lookups.{exact_bytes}
use Rattle.std.proofs.lemmas.Option.{none-some}
use Rattle.tcc_txn.specs.Snapshots.{Sessions}
use Rattle.tcc_txn.specs.Transactions.{Transaction}
use Rattle.tcc_txn.proofs.SortedParts.{name_cmp, same_names}
use Rattle.tcc_book.specs.Passes.{Agrees, Passed, has_pass, recorded_by}

abbrev pub part_by : Passed → List ℕ × List Transaction
part_by pass = (pass.session, pass.recorded)

-- if none is missing, the sessions have passes
none-missing : (passes : List Passed) (ns : List (List ℕ)) (q : List ℕ) → find (λ name. not (has_pass passes name)) ns ≡ None
    → list_any (λ n. is_eq (name_cmp q n)) ns ≡ true → has_pass passes q ≡ true
none-missing passes [] q none any = absurd (true≢false (sym any))
none-missing passes (n ∷ ns) q none any = by (none-missing passes ns q) (has_pass passes n) refl (is_eq (name_cmp q n)) refl
  where
    by : (find (λ name. not (has_pass passes name)) ns ≡ None → list_any (λ n. is_eq (name_cmp q n)) ns ≡ true → has_pass passes q ≡ true)
        → (b : Bool) → has_pass passes n ≡ b → (t : Bool) → is_eq (name_cmp q n) ≡ t → has_pass passes q ≡ true
    by rest false is t tied = absurd (none-some n (sym (rw is at none)))
    by rest true is true tied = ap (has_pass passes) (same_names q n (texts_ties q n ∙ tied)) ∙ is
    by rest true is false tied = rest (rw is at none) (rw tied at any)

-- a session without an entry of a pass has no pass
unfound-pass : (passes : List Passed) (q : List ℕ) → finite.find name_cmp q (map part_by passes) ≡ None → has_pass passes q ≡ false
unfound-pass [] q none = refl
unfound-pass (p ∷ ps) q none = by (unfound-pass ps q) (is_eq (name_cmp q p.session)) refl
  where
    by : (finite.find name_cmp q (map part_by ps) ≡ None → has_pass ps q ≡ false) → (b : Bool) → is_eq (name_cmp q p.session) ≡ b → has_pass (p ∷ ps) q ≡ false
    by rest true is = absurd (none-some p.recorded (sym (rw is at none)))
    by rest false is = λ i. (texts_ties q p.session ∙ is) i || rest (rw is at none) i

-- what a pass recorded is what the sessions have
found-pass : (s : Sessions) (passes : List Passed) (q : List ℕ) (v : List Transaction) → All (Agrees s) passes
    → finite.find name_cmp q (map part_by passes) ≡ Some v → finite.get s q ≡ Some v
found-pass s [] q v all found = absurd (none-some v found)
found-pass s (p ∷ ps) q v all found = by (found-pass s ps q v (All-tail (Agrees s) p ps all)) (is_eq (name_cmp q p.session)) refl
  where
    by : (finite.find name_cmp q (map part_by ps) ≡ Some v → finite.get s q ≡ Some v) → (b : Bool) → is_eq (name_cmp q p.session) ≡ b → finite.get s q ≡ Some v
    by rest true is =
        let name : q ≡ p.session = same_names q p.session (texts_ties q p.session ∙ is) in
        ap (finite.get s) name ∙ All-head (Agrees s) p ps all ∙ (rw is at found)
    by rest false is = rest (rw is at found)

pub is-whole : (s : Sessions) (passes : List Passed) → find (λ name. not (has_pass passes name)) (map (λ e. e.0) (finite.entries s)) ≡ None
    → All (Agrees s) passes → s ≡ recorded_by passes
is-whole s passes none all =
    finite.same_map nat_list_cmp_total exact_bytes s (recorded_by passes) (λ q.
    by q (finite.find name_cmp q (map part_by passes)) refl (finite.get s q) refl
    ∙ sym (finite.get-from_entries nat_list_cmp_total (map part_by passes) q))
  where
    by : (q : List ℕ) → (o : Option (List Transaction)) → finite.find name_cmp q (map part_by passes) ≡ o
        → (g : Option (List Transaction)) → finite.get s q ≡ g → finite.get s q ≡ finite.find name_cmp q (map part_by passes)
    by q (Some v) found g is = found-pass s passes q v all found ∙ sym found
    by q None unfound None is = is ∙ sym unfound
    by q None unfound (Some v) is =
        let key : list_any (λ n. is_eq (name_cmp q n)) (map (λ e. e.0) (finite.entries s)) ≡ true = sym (finite.contains_key-keys s q) ∙ ap is_some is in
        absurd (true≢false (sym (none-missing passes (map (λ e. e.0) (finite.entries s)) q none key) ∙ unfound-pass passes q unfound))
