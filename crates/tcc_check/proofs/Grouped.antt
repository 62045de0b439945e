-- Groups of links, as they are made and as they are gone through.
use Rattle.std.proofs.Common.{◌≡◌, ◌<◌, ◌≤◌, ◌+◌, ◌-◌, ℕ, zero, suc, ◌⊎◌, inl, inr, List, [], ◌∷◌, ◌++◌}
use Rattle.std.proofs.Common.{length, get_or, take, drop, drop-drop, append_assoc, append-nil, arith, refl}
use Rattle.std.proofs.Common.{sym, ap, subst, ◌∙◌}
use Rattle.std.specs.Prelude.{All}
use Rattle.std.proofs.lemmas.Bool.{cases_eq}
use Rattle.std.proofs.lemmas.List.Elements.{All-push}
use Rattle.std.proofs.lemmas.List.{drop-append-le, get_or_default, get_or-append-add, get_or_append_left, get_or-drop, get_or-map}
use Rattle.std.proofs.lemmas.List.{get_or-take, length-append, length-drop, length-map, length-take-le, length_push, map_push}
use Rattle.std.proofs.lemmas.List.{take-append-le, take_all, take_more}
use Rattle.tcc_check.specs.private.Groups.{AreGroupsOf, links_by, total, weighed}

length-weighed : (weight : ℕ) (ends : List ℕ) → length (weighed weight ends) ≡ length ends
length-weighed weight ends = length-map {B = ℕ × ℕ} ends (λ end. (end, weight))

weighed-push : (weight : ℕ) (ends : List ℕ) (end : ℕ) → weighed weight (ends ++ end ∷ []) ≡ weighed weight ends ++ (end, weight) ∷ []
weighed-push weight ends end = map_push {Y = ℕ × ℕ} (λ e. (e, weight)) ends end

weighed-at : (weight : ℕ) (ends : List ℕ) (k : ℕ) → k < length ends → get_or (weighed weight ends) k (0, 0) ≡ (get_or ends k 0, weight)
weighed-at weight ends k inside = get_or-map {Y = ℕ × ℕ} (λ e. (e, weight)) ends k 0 (0, 0) inside

-- ---- as they are made

pub total-push : (groups : List (ℕ × ℕ)) (group : ℕ × ℕ) → total (groups ++ group ∷ []) ≡ total groups + group.1
total-push [] group = omega arith
total-push (first ∷ groups) group = omega (arith, total-push groups group)

-- an empty group changes nothing
pub empty-group : (groups : List (ℕ × ℕ)) (weight : ℕ) (ends : List ℕ) → links_by (groups ++ (weight, 0) ∷ []) ends ≡ links_by groups ends
empty-group [] weight ends = refl
empty-group (first ∷ groups) weight ends =
    ap (λ (rest : List (ℕ × ℕ)). weighed first.0 (take first.1 ends) ++ rest) (empty-group groups weight (drop first.1 ends))

-- one more end in the last group
pub more-in-group : (groups : List (ℕ × ℕ)) (weight n : ℕ) (ends : List ℕ) (end : ℕ) → total groups + n ≡ length ends
    → links_by (groups ++ (weight, n + 1) ∷ []) (ends ++ end ∷ []) ≡ links_by (groups ++ (weight, n) ∷ []) ends ++ (end, weight) ∷ []
more-in-group [] weight n ends end all =
    let whole : take (n + 1) (ends ++ end ∷ []) ≡ ends ++ end ∷ [] = take_all (n + 1) (ends ++ end ∷ []) (omega (arith, length_push ends end, all)) in
    let before : take n ends ≡ ends = take_all n ends (omega (arith, all)) in
    append-nil (weighed weight (take (n + 1) (ends ++ end ∷ []))) ∙ ap (weighed weight) whole ∙ weighed-push weight ends end
    ∙ ap (λ (links : List (ℕ × ℕ)). links ++ (end, weight) ∷ []) (sym (append-nil (weighed weight (take n ends)) ∙ ap (weighed weight) before))
more-in-group (first ∷ groups) weight n ends end all =
    let inside : first.1 ≤ length ends = omega (arith, all) in
    let left : total groups + n ≡ length (drop first.1 ends) = omega (arith, all, length-drop first.1 ends) in
    rw (
      take-append-le first.1 ends (end ∷ []) inside,
      drop-append-le first.1 ends (end ∷ []) inside,
      more-in-group groups weight n (drop first.1 ends) end left,
    )
    (sym (append_assoc (weighed first.0 (take first.1 ends)) (links_by (groups ++ (weight, n) ∷ []) (drop first.1 ends)) ((end, weight) ∷ [])))

-- of the first i links, all but those of the group that is still open
pub record AreGroupsTo (i : ℕ) (links groups : List (ℕ × ℕ)) (weight n : ℕ) (ends : List ℕ) : Type 0 where
  pub made : links_by (groups ++ (weight, n) ∷ []) ends ≡ take i links
  pub all : total groups + n ≡ length ends
  pub long : length ends ≡ i
  pub some : All (λ (group : ℕ × ℕ). 0 < group.1) groups

pub no-groups : (links : List (ℕ × ℕ)) → AreGroupsTo 0 links [] 0 0 []
no-groups links = record { made = refl; all = refl; long = refl; some = λ k d l. absurd (omega (arith, l)) }

group-closed : (i : ℕ) (links groups : List (ℕ × ℕ)) (weight n next : ℕ) (ends : List ℕ) → 0 < n → AreGroupsTo i links groups weight n ends
    → AreGroupsTo i links (groups ++ (weight, n) ∷ []) next 0 ends
group-closed i links groups weight n next ends some are = record {
  made = empty-group (groups ++ (weight, n) ∷ []) next ends ∙ are.made;
  all = omega (arith, total-push groups (weight, n), are.all);
  long = are.long;
  some = All-push (λ (group : ℕ × ℕ). 0 < group.1) groups (weight, n) are.some some;
}

group-anew : (i : ℕ) (links groups : List (ℕ × ℕ)) (weight n next : ℕ) (ends : List ℕ) → n ≡ 0 → AreGroupsTo i links groups weight n ends
    → AreGroupsTo i links groups next n ends
group-anew i links groups weight n next ends none are = record {
  made = rw none (empty-group groups next ends ∙ sym (empty-group groups weight ends)) ∙ are.made;
  all = are.all;
  long = are.long;
  some = are.some;
}

-- the group that was open is closed, if any end is in it, and one of the next weight is open
pub group-next : (i : ℕ) (links groups closed : List (ℕ × ℕ)) (weight n next : ℕ) (ends : List ℕ) → (0 < n → closed ≡ groups ++ (weight, n) ∷ [])
    → (n ≡ 0 → closed ≡ groups) → AreGroupsTo i links groups weight n ends → AreGroupsTo i links closed next 0 ends
group-next i links groups closed weight n next ends some none are = go (cases_eq n 0)
  where
    go : (n ≡ 0) ⊎ (n ≡ 0 → ⊥) → AreGroupsTo i links closed next 0 ends
    go (inl empty) = rw (none empty) (subst (λ (m : ℕ). AreGroupsTo i links groups next m ends) empty (group-anew i links groups weight n next ends empty are))
    go (inr filled) = rw (some (omega (arith, filled))) (group-closed i links groups weight n next ends (omega (arith, filled)) are)

pub group-grown : (i : ℕ) (links groups : List (ℕ × ℕ)) (weight n end : ℕ) (ends : List ℕ) → i < length links → get_or links i (0, 0) ≡ (end, weight)
    → AreGroupsTo i links groups weight n ends → AreGroupsTo (i + 1) links groups weight (n + 1) (ends ++ end ∷ [])
group-grown i links groups weight n end ends inside is are = record {
  made =
      more-in-group groups weight n ends end are.all ∙ ap (λ (front : List (ℕ × ℕ)). front ++ (end, weight) ∷ []) are.made
      ∙ sym (take_more links i (0, 0) inside ∙ ap (λ (z : ℕ × ℕ). take i links ++ z ∷ []) is);
  all = omega (arith, are.all, length_push ends end);
  long = omega (arith, are.long, length_push ends end);
  some = are.some;
}

-- all links are in the groups, the last of which is closed, if any end is in it
pub all-groups : (i : ℕ) (links groups closed : List (ℕ × ℕ)) (weight n : ℕ) (ends : List ℕ) → i ≡ length links
    → (0 < n → closed ≡ groups ++ (weight, n) ∷ []) → (n ≡ 0 → closed ≡ groups) → AreGroupsTo i links groups weight n ends
    → (links_by closed ends ≡ links) × AreGroupsOf closed ends
all-groups i links groups closed weight n ends all some none are = (
  sym (empty-group closed weight ends) ∙ last.made ∙ take_all i links (omega (arith, all)),
  record { all = omega (arith, last.all); some = last.some },
)
  where
    last : AreGroupsTo i links closed weight 0 ends
    last = group-next i links groups closed weight n weight ends some none are

-- ---- as they are gone through

pub length-links : (groups : List (ℕ × ℕ)) (ends : List ℕ) → total groups ≡ length ends → length (links_by groups ends) ≡ length ends
length-links [] ends all = omega (arith, all)
length-links (first ∷ groups) ends all =
    let inside : first.1 ≤ length ends = omega (arith, all) in
    let left : total groups ≡ length (drop first.1 ends) = omega (arith, all, length-drop first.1 ends) in
    omega (
      arith,
      length-append (weighed first.0 (take first.1 ends)) (links_by groups (drop first.1 ends)),
      length-weighed first.0 (take first.1 ends),
      length-take-le first.1 ends inside,
      length-links groups (drop first.1 ends) left,
      length-drop first.1 ends,
      all,
    )

-- how many ends are before a group and in it
pub total-more : (groups : List (ℕ × ℕ)) (i : ℕ) → i < length groups → total (take (i + 1) groups) ≡ total (take i groups) + (get_or groups i (0, 0)).1
total-more groups i inside = ap total (take_more groups i (0, 0) inside) ∙ total-push (take i groups) (get_or groups i (0, 0))

pub total-within : (groups : List (ℕ × ℕ)) (i : ℕ) → total (take i groups) ≤ total groups
total-within groups zero = omega arith
total-within [] (suc i) = omega arith
total-within (first ∷ groups) (suc i) = omega (arith, total-within groups i)

-- what is in a group
pub in-group : (groups : List (ℕ × ℕ)) (ends : List ℕ) (i k : ℕ) → total groups ≡ length ends → i < length groups → k < (get_or groups i (0, 0)).1
    → get_or (links_by groups ends) (total (take i groups) + k) (0, 0) ≡ (get_or ends (total (take i groups) + k) 0, (get_or groups i (0, 0)).0)
in-group [] ends i k all inside here = absurd (omega (arith, inside))
in-group (first ∷ groups) ends zero k all inside here =
    let long : length (take first.1 ends) ≡ first.1 = length-take-le first.1 ends (omega (arith, all)) in
    let at : 0 + k ≡ k = omega arith in
    rw at (
    get_or_append_left (weighed first.0 (take first.1 ends)) (links_by groups (drop first.1 ends)) (0, 0) k
    (omega (arith, length-weighed first.0 (take first.1 ends), long, here))
    ∙ weighed-at first.0 (take first.1 ends) k (omega (arith, long, here))
    ∙ ap (λ (z : ℕ). (z, first.0)) (get_or-take first.1 ends k 0 here)
    )
in-group (first ∷ groups) ends (suc i) k all inside here =
    let within : first.1 ≤ length ends = omega (arith, all) in
    let long : length (weighed first.0 (take first.1 ends)) ≡ first.1 = length-weighed first.0 (take first.1 ends) ∙ length-take-le first.1 ends within in
    let left : total groups ≡ length (drop first.1 ends) = omega (arith, all, length-drop first.1 ends) in
    let at : first.1 + total (take i groups) + k ≡ length (weighed first.0 (take first.1 ends)) + (total (take i groups) + k) = omega (arith, long) in
    let there : first.1 + (total (take i groups) + k) ≡ first.1 + total (take i groups) + k = omega arith in
    ap (λ (z : ℕ). get_or (weighed first.0 (take first.1 ends) ++ links_by groups (drop first.1 ends)) z (0, 0)) at
    ∙ get_or-append-add (weighed first.0 (take first.1 ends)) (links_by groups (drop first.1 ends)) (total (take i groups) + k) (0, 0)
    ∙ in-group groups (drop first.1 ends) i k left (omega (arith, inside)) here
    ∙ ap (λ (z : ℕ). (z, (get_or groups i (0, 0)).0)) (get_or-drop first.1 ends (total (take i groups) + k) 0 ∙ ap (λ (z : ℕ). get_or ends z 0) there)

-- the part of the ends that is a group's
pub part-long : (ends : List ℕ) (first n : ℕ) → first + n ≤ length ends → length (take n (drop first ends)) ≡ n
part-long ends first n inside = length-take-le n (drop first ends) (omega (arith, length-drop first ends, inside))

pub part-at : (ends : List ℕ) (first n k d : ℕ) → first + n ≤ length ends → k < n → get_or (take n (drop first ends)) k d ≡ get_or ends (first + k) 0
part-at ends first n k d inside l =
    get_or-take n (drop first ends) k d l ∙ get_or-drop first ends k d ∙ get_or_default ends (first + k) d 0 (omega (arith, inside, l))

-- ---- one group of them

-- where its ends begin, and how it is
abbrev pub begin : List (ℕ × ℕ) → ℕ → ℕ
begin groups i = total (take i groups)

abbrev pub group : List (ℕ × ℕ) → ℕ → ℕ × ℕ
group groups i = get_or groups i (0, 0)

module _ (groups : List (ℕ × ℕ)) (ends : List ℕ) (are : AreGroupsOf groups ends) where
  -- a group ends inside
  pub group_inside : (i : ℕ) → i < length groups → begin groups i + (group groups i).1 ≤ length ends
  group_inside i inside = omega (arith, total-more groups i inside, total-within groups (i + 1), are.all)

  -- and begins inside, since none is empty
  pub group_begins : (i : ℕ) → i < length groups → begin groups i < length (links_by groups ends)
  group_begins i inside = omega (arith, group_inside i inside, are.some i (0, 0) inside, length-links groups ends are.all)

  -- its first link has its weight
  pub group_weight : (i : ℕ) → i < length groups → (get_or (links_by groups ends) (begin groups i) (0, 0)).1 ≡ (group groups i).0
  group_weight i inside =
      ap (λ k. (get_or (links_by groups ends) k (0, 0)).1) (omega arith)
      ∙ ap (λ (z : ℕ × ℕ). z.1) (in-group groups ends i 0 are.all inside (are.some i (0, 0) inside))

  -- after the last group all links were gone through
  pub groups_end : (i : ℕ) → length groups ≤ i → begin groups i ≡ length (links_by groups ends)
  groups_end i all = ap total (take_all i groups all) ∙ are.all ∙ sym (length-links groups ends are.all)

  module _ (i : ℕ) (inside : i < length groups) (left : List ℕ) (is : left ≡ drop (begin groups i) ends) where
    -- what is left before a group has its ends
    pub group_fits : (group groups i).1 ≤ length left
    group_fits = omega (arith, group_inside i inside, ap length is, length-drop (begin groups i) ends)

    -- and what is left after it those of the next
    pub group_left : (rest : List ℕ) → rest ≡ drop (group groups i).1 left → rest ≡ drop (begin groups (i + 1)) ends
    group_left rest behind =
        behind ∙ ap (drop (group groups i).1) is ∙ drop-drop (group groups i).1 (begin groups i) ends
        ∙ ap (λ n. drop n ends) (sym (total-more groups i inside))

  module _ (i : ℕ) (run : List ℕ) (inside : i < length groups) (is : run ≡ take (group groups i).1 (drop (begin groups i) ends)) where
    pub run_long : length run ≡ (group groups i).1
    run_long = ap length is ∙ part-long ends (begin groups i) (group groups i).1 (group_inside i inside)

    are_run : (k d : ℕ) → k < length run → get_or run k d ≡ get_or ends (begin groups i + k) 0
    are_run k d l =
        ap (λ r. get_or r k d) is ∙ part-at ends (begin groups i) (group groups i).1 k d (group_inside i inside) (omega (arith, l, run_long))

    -- its ends are below the number that all links' ends are below
    pub group_below : (m : ℕ) → All (λ (link : ℕ × ℕ). link.0 < m) (links_by groups ends) → All (λ end. end < m) run
    group_below m all k d l =
        let at = in-group groups ends i k are.all inside (omega (arith, l, run_long)) in
        let link = all (begin groups i + k) (0, 0) (omega (arith, l, run_long, group_inside i inside, length-links groups ends are.all)) in
        omega (arith, are_run k d l, ap (λ (z : ℕ × ℕ). z.0) at, link)

    -- its links, by their index in it and by that among all
    pub at_run : (k : ℕ) → k < (group groups i).1 → get_or (links_by groups ends) (begin groups i + k) (0, 0) ≡ (get_or run k 0, (group groups i).0)
    at_run k l =
        in-group groups ends i k are.all inside l ∙ ap (λ (z : ℕ). (z, (group groups i).0)) (sym (are_run k 0 (omega (arith, l, run_long))))

    pub in_run : (k : ℕ) → begin groups i ≤ k → k < begin groups i + (group groups i).1
        → get_or (links_by groups ends) k (0, 0) ≡ (get_or run (k - begin groups i) 0, (group groups i).0)
    in_run k from l =
        let same : begin groups i + (k - begin groups i) ≡ k = omega (arith, from) in
        ap (λ (z : ℕ). get_or (links_by groups ends) z (0, 0)) (sym same) ∙ at_run (k - begin groups i) (omega (arith, l, from))
