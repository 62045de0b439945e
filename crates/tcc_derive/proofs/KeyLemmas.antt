-- What is read is one of the keys of a history.
use Rattle.std.proofs.Common.{ℕ, ◌<◌, ◌≡◌, true, List, [], length, refl, sym, ◌∙◌, bytes_eq}
use Rattle.std.proofs.lemmas.List.{get_or_default}
use Rattle.std.proofs.lemmas.List.Folds.{list_any_at, Any-from_list_any}
use Rattle.std.proofs.lemmas.Slice.Eq.{bytes_eq-Decides}
use Rattle.tcc_reads.specs.History.{History}
use Rattle.tcc_graph.specs.Relations.{IsReadsPair}
use Rattle.tcc_graph.specs.Keys.{is_key, keys}
use Rattle.tcc_graph.specs.KeyIndices.{name_of}
use Rattle.tcc_graph.proofs.KeysLemmas.{has_name-keys}
use Rattle.tcc_graph.proofs.WriterLemmas.{read_is_key}

pub read_key : (h : History) (a c : ℕ) (x : List ℕ) → IsReadsPair h a c x → (k : ℕ) × (k < length (keys h)) × (name_of (keys h) k ≡ x)
read_key h a c x p =
    let any = Any-from_list_any (bytes_eq x) (keys h) (has_name-keys h x ∙ read_is_key h a c x p) in
    (any.0, any.2, get_or_default (keys h) any.0 [] any.1 any.2 ∙ any.3 ∙ sym ((bytes_eq-Decides x any.1).0 any.4))

pub key_at : (h : History) (k : ℕ) → k < length (keys h) → is_key h (name_of (keys h) k) ≡ true
key_at h k within =
    sym (has_name-keys h (name_of (keys h) k)) ∙ list_any_at (bytes_eq (name_of (keys h) k)) (keys h) k [] within
    ((bytes_eq-Decides (name_of (keys h) k) (name_of (keys h) k)).1 refl)
