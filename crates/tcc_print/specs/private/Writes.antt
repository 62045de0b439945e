-- Which write of a value is the first.
use Rattle.std.specs.Prelude.{ℕ, ◌≡◌, List, Option, None, Some, MatchOption}
use Rattle.tcc_reads.specs.Faults.{writer}
use Rattle.tcc_reads.specs.Sites.{Site, Stand, at}
use Rattle.tcc_print.specs.declared.notes.writers.WritePlace.{WritePlace}

-- this is the place of the first write of the value at the key; none where there is none
abbrev pub IsFirstWrite : List Stand → List ℕ → ℕ → Option WritePlace → Type 0
IsFirstWrite all key value found =
    MatchOption found (writer all key value ≡ None) (λ place.
    (site : Site) × (writer all key value ≡ Some site)
    × (place.session ≡ site.stand.name) × (place.place ≡ site.stand.place) × (place.op ≡ at site))
