-- Texts of the items of a list, sent one after the other.
use Rattle.std.proofs.Common.{◌≡◌, ℕ, ◌+◌, ◌<◌, ◌≤◌, List, [], ◌∷◌, ◌++◌, length, Option, refl, sym}
use Rattle.std.proofs.Common.{ap, subst, ◌∙◌, append-nil, append_assoc, take, drop, get_or, map, flat_map}
use Rattle.std.proofs.Common.{take-append-drop}
use lib.Seq.{take-add}
use Rattle.std.proofs.lemmas.List.{at_drop_more, take_all}
use Rattle.std.proofs.lemmas.Grind.{take_at_read, flat_map-append}
use Rattle.tcc_cert.specs.private.Writing.{Stops}
use Rattle.tcc_cert.specs.Given.{Sends}
use Rattle.tcc_cert.proofs.SentFacts.{Sends-then, Stops-then, Stops-early}

-- the texts up to an item and its own
one_more : {X : Type 0} (f : X → List ℕ) (xs : List X) (i : ℕ) (d : X) → i < length xs
    → flat_map f (take (i + 1) xs) ≡ flat_map f (take i xs) ++ f (get_or xs i d)
one_more f xs i d lt =
    ap (flat_map f) (take_at_read xs i d lt).1
    ∙ flat_map-append f (take i xs) (get_or xs i d ∷ [])
    ∙ ap (λ l. flat_map f (take i xs) ++ l) (append-nil (f (get_or xs i d)))

-- the texts up to an item, its own, and those after it
around : {X : Type 0} (f : X → List ℕ) (xs : List X) (i : ℕ) (d : X) → i < length xs
    → flat_map f xs ≡ flat_map f (take i xs) ++ (f (get_or xs i d) ++ flat_map f (drop (i + 1) xs))
around f xs i d lt =
    ap (flat_map f) (sym (take-append-drop i xs))
    ∙ flat_map-append f (take i xs) (drop i xs)
    ∙ ap (λ l. flat_map f (take i xs) ++ l) (at_drop_more (flat_map f) xs i d lt)

-- the next item was sent too
pub Sends-item : {X : Type 0} {a b c : Option (List ℕ)} {l m n : List ℕ} (f : X → List ℕ) (xs : List X) (i : ℕ) (d : X) → i < length xs
    → Sends a l b m (flat_map f (take i xs)) → Sends b m c n (f (get_or xs i d)) → Sends a l c n (flat_map f (take (i + 1) xs))
Sends-item {X} {a} {b} {c} {l} {m} {n} f xs i d lt before item = subst (Sends a l c n) (sym (one_more f xs i d lt)) (Sends-then before item)

-- a part of the next item was sent
pub Stops-item : {X : Type 0} {a b c : Option (List ℕ)} {l m : List ℕ} (f : X → List ℕ) (xs : List X) (i : ℕ) (d : X) → i < length xs
    → Sends a l b m (flat_map f (take i xs)) → Stops b m c (f (get_or xs i d)) → Stops a l c (flat_map f xs)
Stops-item {X} {a} {b} {c} {l} {m} f xs i d lt before item =
    subst (Stops a l c) (sym (around f xs i d lt)) (Stops-then before (Stops-early (flat_map f (drop (i + 1) xs)) item))

-- an item that was read from the list
pub Sends-read : {X : Type 0} {a b c : Option (List ℕ)} {l m n : List ℕ} (f : X → List ℕ) (xs : List X) (i : ℕ) (x : X) → i < length xs → x ≡ get_or xs i x
    → Sends a l b m (flat_map f (take i xs)) → Sends b m c n (f x) → Sends a l c n (flat_map f (take (i + 1) xs))
Sends-read {X} {a} {b} {c} {l} {m} {n} f xs i x lt is before item = Sends-item f xs i x lt before (subst (λ y. Sends b m c n (f y)) is item)

pub Stops-read : {X : Type 0} {a b c : Option (List ℕ)} {l m : List ℕ} (f : X → List ℕ) (xs : List X) (i : ℕ) (x : X) → i < length xs → x ≡ get_or xs i x
    → Sends a l b m (flat_map f (take i xs)) → Stops b m c (f x) → Stops a l c (flat_map f xs)
Stops-read {X} {a} {b} {c} {l} {m} f xs i x lt is before item = Stops-item f xs i x lt before (subst (λ y. Stops b m c (f y)) is item)

-- the last item was sent
pub Sends-all : {X : Type 0} {a b : Option (List ℕ)} {l m : List ℕ} (f : X → List ℕ) (xs : List X) (i : ℕ) → length xs ≤ i
    → Sends a l b m (flat_map f (take i xs)) → Sends a l b m (flat_map f xs)
Sends-all {X} {a} {b} {l} {m} f xs i le sent = subst (λ items. Sends a l b m (flat_map f items)) (take_all i xs le) sent

-- texts of items that were first made into others
pub flat_map-map : {X Y : Type 0} (f : Y → List ℕ) (g : X → Y) (xs : List X) → flat_map f (map g xs) ≡ flat_map (λ x. f (g x)) xs
flat_map-map f g [] = refl
flat_map-map f g (x ∷ xs) = ap (λ l. f (g x) ++ l) (flat_map-map f g xs)

-- texts of items that were made of parts
pub flat_map-flat_map : {X Y : Type 0} (f : Y → List ℕ) (g : X → List Y) (xs : List X) → flat_map f (flat_map g xs) ≡ flat_map (λ x. flat_map f (g x)) xs
flat_map-flat_map f g [] = refl
flat_map-flat_map f g (x ∷ xs) = flat_map-append f (g x) (flat_map g xs) ∙ ap (λ l. flat_map f (g x) ++ l) (flat_map-flat_map f g xs)

-- the texts of the first items were sent, and of the others none
pub Stops-rest : {X : Type 0} {a b c : Option (List ℕ)} {l m : List ℕ} (f : X → List ℕ) (xs : List X) (i : ℕ)
    → Sends a l b m (flat_map f (take i xs)) → Stops b m c [] → Stops a l c (flat_map f xs)
Stops-rest {X} {a} {b} {c} {l} {m} f xs i before stop =
    let parts : flat_map f xs ≡ flat_map f (take i xs) ++ flat_map f (drop i xs) =
    ap (flat_map f) (sym (take-append-drop i xs)) ∙ flat_map-append f (take i xs) (drop i xs) in
    subst (Stops a l c) (sym parts) (Stops-then before (Stops-early (flat_map f (drop i xs)) stop))

-- some more items were kept
pub Sends-some : {X : Type 0} {a b c : Option (List ℕ)} {l m n k : List ℕ} (f : X → List ℕ) (xs : List X) (i many : ℕ)
    → Sends a l b m (flat_map f (take i xs)) → Sends b m c n [] → k ≡ n ++ flat_map f (take many (drop i xs))
    → Sends a l c k (flat_map f (take (i + many) xs))
Sends-some {X} {a} {b} {c} {l} {m} {n} {k} f xs i many before room kept =
    let some = flat_map f (take many (drop i xs)) in
    let parts : flat_map f (take (i + many) xs) ≡ flat_map f (take i xs) ++ some =
    ap (flat_map f) (take-add i many xs) ∙ flat_map-append f (take i xs) (take many (drop i xs)) in
    rw (parts, kept) (Sends-then before (record {
      sent = room.sent;
      appended = room.appended;
      whole = sym (append_assoc m [] some) ∙ ap (λ t. t ++ some) room.whole ∙ append_assoc room.sent n some;
    }))
