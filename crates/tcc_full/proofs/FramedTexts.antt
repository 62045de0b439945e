-- The text of an object with a list among its members is its pieces, one after the other.
use Rattle.std.proofs.Common.{◌≡◌, ℕ, ◌-◌, Bool, List, [], ◌∷◌, ◌++◌, ◌∙◌, sym, ap, false, true, refl, codes, append_assoc, length, take, drop, length-append, arith}
use Rattle.std.proofs.Math.Seq.{take-append_seam}
use Rattle.serde_json.specs.Data.{Data, null, boolean, number, string, array, object, Items, Members, no_members, member}
use Rattle.serde_json.specs.Written.{comma_if, compact_text, items_text, members_text}
use Rattle.tcc_answer.specs.Json.{word_text}
use Rattle.tcc_full.specs.private.Framing.{framed_by, has_members, joined}

-- members without the brace after them
abbrev opened : Bool → Members → List ℕ
opened later no_members = []
opened later (member k d ms) = comma_if later ++ (compact_text (string k) ++ 58 ∷ (compact_text d ++ opened true ms))

-- members with others after them
member_joined : (later : Bool) (k : List ℕ) (d : Data) (rest more others : List ℕ) → more ≡ rest ++ others
    → comma_if later ++ (compact_text (string k) ++ 58 ∷ (compact_text d ++ more)) ≡ (comma_if later ++ (compact_text (string k) ++ 58 ∷ (compact_text d ++ rest))) ++ others
member_joined later k d rest more others is = rw is (sym (
    append_assoc (comma_if later) (compact_text (string k) ++ 58 ∷ (compact_text d ++ rest)) others
    ∙ ap (λ text. comma_if later ++ text) (append_assoc (compact_text (string k)) (58 ∷ (compact_text d ++ rest)) others
    ∙ ap (λ text. compact_text (string k) ++ 58 ∷ text) (append_assoc (compact_text d) rest others))))

closed : (later : Bool) (ms : Members) → members_text later ms ≡ opened later ms ++ 125 ∷ []
closed later no_members = refl
closed later (member k d ms) = member_joined later k d (opened true ms) (members_text true ms) (125 ∷ []) (closed true ms)

all_joined : (ms others : Members) → members_text true (joined ms others) ≡ opened true ms ++ members_text true others
all_joined no_members others = refl
all_joined (member k d ms) others =
    member_joined true k d (opened true ms) (members_text true (joined ms others)) (members_text true others) (all_joined ms others)

-- what is left of a text without its last byte
without_last : (xs : List ℕ) (last : ℕ) (all : List ℕ) → all ≡ xs ++ last ∷ [] → take (length all - 1) all ≡ xs
without_last xs last all is =
    let long : length all - 1 ≡ length xs = omega (arith, ap length is, length-append xs (last ∷ [])) in
    rw (long, is) (take-append_seam xs (last ∷ []))

front : (k : List ℕ) (d : Data) (ms : Members)
    → take (length (compact_text (object (member k d ms))) - 1) (compact_text (object (member k d ms))) ≡ 123 ∷ opened false (member k d ms)
front k d ms = without_last (123 ∷ opened false (member k d ms)) 125 (compact_text (object (member k d ms))) (ap (λ text. 123 ∷ text) (closed false (member k d ms)))

pub framed_text : (before : Data) (name : List ℕ) (items : Items) (after : Data) → has_members before ≡ true → has_members after ≡ true
    → compact_text (framed_by before name (array items) after)
    ≡ take (length (compact_text before) - 1) (compact_text before)
    ++ (codes "," ++ (word_text name ++ (codes ":[" ++ (items_text false items ++ (codes "," ++ drop 1 (compact_text after))))))
unfolding word_text
framed_text (object (member k d ms)) name items (object (member l e ns)) is_before is_after =
    let behind = member name (array items) (member l e ns) in
    ap (λ text. 123 ∷ text) (member_joined false k d (opened true ms) (members_text true (joined ms behind)) (members_text true behind) (all_joined ms behind))
    ∙ ap (λ text. text ++ members_text true behind) (sym (front k d ms))
framed_text null name items after is_before is_after = cc is_before
framed_text (boolean b) name items after is_before is_after = cc is_before
framed_text (number n) name items after is_before is_after = cc is_before
framed_text (string s) name items after is_before is_after = cc is_before
framed_text (array ds) name items after is_before is_after = cc is_before
framed_text (object no_members) name items after is_before is_after = cc is_before
framed_text (object (member k d ms)) name items null is_before is_after = cc is_after
framed_text (object (member k d ms)) name items (boolean b) is_before is_after = cc is_after
framed_text (object (member k d ms)) name items (number n) is_before is_after = cc is_after
framed_text (object (member k d ms)) name items (string s) is_before is_after = cc is_after
framed_text (object (member k d ms)) name items (array ds) is_before is_after = cc is_after
framed_text (object (member k d ms)) name items (object no_members) is_before is_after = cc is_after
