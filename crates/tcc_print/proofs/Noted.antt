-- What notes add to what was written before.
use Rattle.std.proofs.Common.{ℕ, List, [], ◌∷◌, ◌++◌, Option, take}
use Rattle.std.proofs.KnownBytes.{Appends-nil, Appends-trans}
use Rattle.std.specs.Io.KnownBytes.{Appends}
use Rattle.tcc_print.specs.Notes.{IsNoted, AddsAll, AddsNotes, AddsEach}

pub none_added : (before : Option (List ℕ)) → AddsNotes before before
none_added before = ([], Appends-nil before)

-- one note after others
pub added_more : (before between after : Option (List ℕ)) → AddsNotes before between → AddsNotes between after → AddsNotes before after
added_more before between after some more = (some.0 ++ more.0, Appends-trans before between after some.0 more.0 some.1 more.1)

-- these notes, and one after them
pub noted_more : (before between after : Option (List ℕ)) (texts : List (List ℕ)) (text : List ℕ) → AddsEach before between texts
    → IsNoted between after text → AddsEach before after (texts ++ text ∷ [])
noted_more before between after [] text none more =
    (after, (more.0, Appends-trans before between after [] (take more.0 text) none more.1), Appends-nil after)
noted_more before between after (t ∷ ts) text some more = (some.0, some.1, noted_more some.0 between after ts text some.2 more)

-- all of these notes, and one after them
pub all_more : (before between after : Option (List ℕ)) (texts : List (List ℕ)) (text : List ℕ) → AddsAll before between texts
    → Appends between after text → AddsAll before after (texts ++ text ∷ [])
all_more before between after [] text none more = (after, Appends-trans before between after [] text none more, Appends-nil after)
all_more before between after (t ∷ ts) text some more = (some.0, some.1, all_more some.0 between after ts text some.2 more)

-- whatever these notes are, they are bytes after what was there
pub noted_added : (before after : Option (List ℕ)) (texts : List (List ℕ)) → AddsEach before after texts → AddsNotes before after
noted_added before after [] none = ([], none)
noted_added before after (t ∷ ts) some = added_more before some.0 after (take some.1.0 t, some.1.1) (noted_added some.0 after ts some.2)
