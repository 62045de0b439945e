-- What is shown of bytes that are taken in parts.
use Rattle.std.proofs.Common.{◌≡◌, ◌≢◌, ℕ, zero, suc, ◌+◌, ◌-◌, ◌≤◌, ◌<◌, ◌==◌, ◌&&◌, Bool, true, false, cond, List, [], ◌∷◌, ◌++◌, length, take, get_or, Option, Some, refl, sym, ap, subst, ◌∙◌, inl, inr, Ok, Err, arith, append_assoc, append-nil, length-append}
use Rattle.std.specs.Prelude.{IfOk, Result, slice_get}
use Rattle.std.proofs.Math.Seq.{get_or-append_seam, take-suc}
use Rattle.std.proofs.lemmas.Bool.Decides.{nat_tests}
use Rattle.std.specs.Io.KnownBytes.{Appends}
use Rattle.std.proofs.KnownBytes.{Appends-nil, Appends-trans}
use Rattle.std.proofs.lemmas.Bool.{cases_lt}
use Rattle.tcc_cli.specs.OrderLines.{AreShown, Forwards, ShowsOf, byte_shown, goes_on, held_back, line_after, next_line, order_start, shown, until_feed}
use Rattle.tcc_cli.specs.declared.quiet.LineState.{LineState}
use Rattle.tcc_cli.specs.declared.quiet.LineState.TheVariants.{Begun, Shown, LeftOut}
use Rattle.tcc_cli.specs.declared.quiet.Quiet.{Quiet}

pub after-append : (line : LineState) (xs ys : List ℕ) → line_after line (xs ++ ys) ≡ line_after (line_after line xs) ys
after-append line [] ys = refl
after-append line (x ∷ xs) ys = after-append (next_line line x) xs ys

pub shown-append : (line : LineState) (xs ys : List ℕ) → shown line (xs ++ ys) ≡ shown line xs ++ shown (line_after line xs) ys
shown-append line [] ys = refl
shown-append line (x ∷ xs) ys =
    ap (λ rest. byte_shown line x ++ rest) (shown-append (next_line line x) xs ys)
    ∙ sym (append_assoc (byte_shown line x) (shown (next_line line x) xs) (shown (line_after (next_line line x) xs) ys))

-- ---- lines that are shown

-- a byte that doesn't begin the line of an order is shown
shows : (byte : ℕ) (begun : Bool) → (begun && goes_on 0 byte) ≡ false
    → (byte_shown (cond begun (Begun 0) Shown) byte ≡ byte ∷ []) × (next_line (cond begun (Begun 0) Shown) byte ≡ until_feed Shown byte)
shows byte false apart = (refl, refl)
shows byte true apart = (rw apart refl, rw apart refl)

feed : (byte : ℕ) → until_feed Shown byte ≡ cond (byte == 10) (Begun 0) Shown
feed byte = refl

last_of : (xs : List ℕ) (byte : ℕ) → get_or (xs ++ byte ∷ []) (length (xs ++ byte ∷ []) - 1) 0 ≡ byte
last_of xs byte =
    ap (λ n. get_or (xs ++ byte ∷ []) n 0) (ap (λ n. n - 1) (length-append xs (byte ∷ [])) ∙ omega arith) ∙ get_or-append_seam xs byte [] 0

-- one byte more of lines that are shown, which doesn't begin that of an order
pub one_more : (xs : List ℕ) (byte : ℕ) (begun : Bool) → AreShown xs → line_after Shown xs ≡ cond begun (Begun 0) Shown
    → (begun && goes_on 0 byte) ≡ false
    → AreShown (xs ++ byte ∷ []) × (line_after Shown (xs ++ byte ∷ []) ≡ cond (byte == 10) (Begun 0) Shown)
one_more xs byte begun are state apart =
    let one = shows byte begun apart in
    let line : line_after Shown (xs ++ byte ∷ []) ≡ until_feed Shown byte =
    after-append Shown xs (byte ∷ []) ∙ ap (λ line. next_line line byte) state ∙ one.1 in (
      (
        shown-append Shown xs (byte ∷ []) ∙ ap (λ front. front ++ (byte_shown (line_after Shown xs) byte ++ [])) are.0
            ∙ ap (λ last. xs ++ last) (append-nil (byte_shown (line_after Shown xs) byte) ∙ ap (λ line. byte_shown line byte) state ∙ one.0),
        line ∙ ap (until_feed Shown) (sym (last_of xs byte)),
      ),
      line,
    )

-- ---- one byte more of those at the front

pub take_more : (xs : List ℕ) (k : ℕ) → k < length xs → take (k + 1) xs ≡ take k xs ++ get_or xs k 0 ∷ []
take_more xs k inside = ap (λ n. take n xs) (suc_is k) ∙ take-suc xs k 0 inside
  where
    suc_is : (k : ℕ) → k + 1 ≡ suc k
    suc_is k = omega arith

-- all those at the front are shown, and so is the next one
pub more_shown : (xs : List ℕ) (k : ℕ) (begun : Bool) → k < length xs → ((n : ℕ) → n ≤ k → AreShown (take n xs))
    → line_after Shown (take k xs) ≡ cond begun (Begun 0) Shown → (begun && goes_on 0 (get_or xs k 0)) ≡ false
    → ((n : ℕ) → n ≤ k + 1 → AreShown (take n xs)) × (line_after Shown (take (k + 1) xs) ≡ cond (get_or xs k 0 == 10) (Begun 0) Shown)
more_shown xs k begun inside are state apart =
    let more = one_more (take k xs) (get_or xs k 0) begun (are k (omega arith)) state apart in
    let same = sym (take_more xs k inside) in (
      (λ n up. elim (cases_lt k n) [
        | inl above ↦ subst (λ m. AreShown (take m xs)) (omega (arith, above, up)) (subst AreShown same more.0)
        | inr below ↦ are n below
      ]),
      subst (λ (bytes : List ℕ). line_after Shown bytes ≡ cond (get_or xs k 0 == 10) (Begun 0) Shown) same more.1,
    )

-- a line that is left out goes on up to its line feed
abbrev pub IsHidden : LineState → List ℕ → Type 0
IsHidden line bytes = (line_after LeftOut bytes ≡ line) × (shown LeftOut bytes ≡ [])

more_hidden : (xs : List ℕ) (k : ℕ) → k < length xs → IsHidden LeftOut (take k xs) → IsHidden (until_feed LeftOut (get_or xs k 0)) (take (k + 1) xs)
more_hidden xs k inside (line, none) =
    let byte = get_or xs k 0 in
    subst (IsHidden (until_feed LeftOut byte)) (sym (take_more xs k inside)) (
      after-append LeftOut (take k xs) (byte ∷ []) ∙ ap (λ line. next_line line byte) line,
      shown-append LeftOut (take k xs) (byte ∷ []) ∙ ap (λ front. front ++ (byte_shown (line_after LeftOut (take k xs)) byte ++ [])) none
          ∙ ap (λ line. byte_shown line byte ++ []) line,
    )

pub hidden_on : (xs : List ℕ) (k : ℕ) → k < length xs → get_or xs k 0 ≢ 10 → IsHidden LeftOut (take k xs) → IsHidden LeftOut (take (k + 1) xs)
hidden_on xs k inside other hidden = subst (λ line. IsHidden line (take (k + 1) xs)) (not_feed (get_or xs k 0) other) (more_hidden xs k inside hidden)
  where
    not_feed : (byte : ℕ) → byte ≢ 10 → until_feed LeftOut byte ≡ LeftOut
    not_feed byte other = let is : (byte == 10) ≡ false = grind (arith, nat_tests, other) in rw is refl

pub hidden_up : (xs : List ℕ) (k : ℕ) → k < length xs → get_or xs k 0 ≡ 10 → IsHidden LeftOut (take k xs) → IsHidden (Begun 0) (take (k + 1) xs)
hidden_up xs k inside same hidden = subst (λ byte. IsHidden (until_feed LeftOut byte) (take (k + 1) xs)) same (more_hidden xs k inside hidden)

pub hidden_of : {W : Type 0} (contents : W → Option (List ℕ)) (old now : Quiet W) (line : LineState) (bytes : List ℕ)
    → old.line ≡ LeftOut → now ≡ old → IsHidden line bytes
    → (line ≡ line_after old.line bytes) × Appends (contents old.stream) (contents now.stream) (shown old.line bytes)
hidden_of {W = W} contents old now line bytes left same (after, none) = (
  sym (ap (λ l. line_after l bytes) left ∙ after),
  subst (λ (q : Quiet W). Appends (contents old.stream) (contents q.stream) (shown old.line bytes)) (sym same)
      (subst (Appends (contents old.stream) (contents old.stream)) (sym (ap (λ l. shown l bytes) left ∙ none)) (Appends-nil (contents old.stream))),
)

-- ---- a line that isn't that of an order

-- what was held back of it was given, and then it is shown
pub begun_shown : {W : Type 0} (contents : W → Option (List ℕ)) (old given new : Quiet W) (held n byte : ℕ) (bytes : List ℕ)
    → old.line ≡ Begun held → slice_get bytes 0 ≡ Some byte → goes_on held byte ≡ false → given.line ≡ Shown
    → Appends (contents old.stream) (contents given.stream) (take held order_start)
    → ShowsOf contents given new (take n bytes) → Forwards true contents old new (take n bytes)
begun_shown contents old given new held n byte [] begun first apart gone gave more = let bad : ⊥ = cc first in absurd bad
begun_shown contents old given new held zero byte (x ∷ bytes) begun first apart gone gave (line, more) =
    inr (
      refl,
      (
        line ∙ gone,
        subst (Appends (contents old.stream) (contents new.stream)) (append-nil (take held order_start) ∙ ap held_back (sym begun))
            (Appends-trans (contents old.stream) (contents given.stream) (contents new.stream) (take held order_start) [] gave more),
      ),
    )
begun_shown contents old given new held (suc n) byte (x ∷ bytes) begun first apart gone gave (line, more) =
    let same : x ≡ byte = cc first in
    let other : goes_on held x ≡ false = ap (goes_on held) same ∙ apart in
    inl (
      line ∙ ap (λ line. line_after line (x ∷ take n bytes)) gone ∙ sym (ap (λ line. line_after line (x ∷ take n bytes)) begun ∙ next other),
      subst (Appends (contents old.stream) (contents new.stream)) (sym (ap (λ line. shown line (x ∷ take n bytes)) begun ∙ text other))
          (Appends-trans (contents old.stream) (contents given.stream) (contents new.stream) (take held order_start) (shown Shown (x ∷ take n bytes)) gave
          (subst (λ line. Appends (contents given.stream) (contents new.stream) (shown line (x ∷ take n bytes))) gone more)),
    )
  where
    next : goes_on held x ≡ false → line_after (Begun held) (x ∷ take n bytes) ≡ line_after Shown (x ∷ take n bytes)
    next other = ap (λ line. line_after line (take n bytes)) (next_is other)
      where
        next_is : goes_on held x ≡ false → next_line (Begun held) x ≡ until_feed Shown x
        next_is other = rw other refl

    text : goes_on held x ≡ false → shown (Begun held) (x ∷ take n bytes) ≡ take held order_start ++ shown Shown (x ∷ take n bytes)
    text other = rw other (append_assoc (take held order_start) (x ∷ []) (shown (until_feed Shown x) (take n bytes)))

-- the same of what a call took
pub begun_ok : {W E : Type 0} (contents : W → Option (List ℕ)) (old given new : Quiet W) (held byte : ℕ) (bytes : List ℕ) (r : Result ℕ E)
    → old.line ≡ Begun held → slice_get bytes 0 ≡ Some byte → goes_on held byte ≡ false → given.line ≡ Shown
    → Appends (contents old.stream) (contents given.stream) (take held order_start)
    → IfOk r (λ n. ShowsOf contents given new (take n bytes)) → IfOk r (λ n. Forwards true contents old new (take n bytes))
begun_ok contents old given new held byte bytes (Ok n) begun first apart gone gave more =
    begun_shown contents old given new held n byte bytes begun first apart gone gave more
begun_ok contents old given new held byte bytes (Err why) begun first apart gone gave more = tt
