-- Which bytes of a text a writer shows that leaves out the lines of orders.
use Rattle.std.specs.Prelude.{ℕ, ◌+◌, ◌-◌, ◌==◌, ◌≡◌, ◌≢◌, ◌⊎◌, ◌&&◌, not, nat_lt, Bool, true, false, if◌then◌else◌, All, List, [], ◌∷◌, ◌++◌, codes, filter, get_or, length, slice_get, take, Option, None, Some}
use Rattle.std.specs.Io.KnownBytes.{Appends}
use Rattle.tcc_cli.specs.declared.quiet.LineState.{LineState}
use Rattle.tcc_cli.specs.declared.quiet.LineState.TheVariants.{Begun, Shown, LeftOut}
use Rattle.tcc_cli.specs.declared.quiet.Quiet.{Quiet}

-- how the line of an order begins
abbrev pub order_start : List ℕ
order_start = codes "order: "

-- whether the byte is this one
abbrev pub is_byte : Option ℕ → ℕ → Bool
is_byte None byte = false
is_byte (Some expected) byte = expected == byte

-- whether the byte is the one of that begin at this index
abbrev pub goes_on : ℕ → ℕ → Bool
goes_on held byte = is_byte (slice_get order_start held) byte

-- a line that is shown or left out goes on so up to its line feed, after which a line begins
abbrev pub until_feed : LineState → ℕ → LineState
until_feed line byte = if byte == 10 then Begun 0 else line

-- what is known of a line that began as that of an order does, after one byte more of it
abbrev pub begun_next : ℕ → LineState
begun_next held = if nat_lt (held + 1) (length order_start) then Begun (held + 1) else LeftOut

-- what is known of a line after one byte more
abbrev pub next_line : LineState → ℕ → LineState
next_line (Begun held) byte = if goes_on held byte then begun_next held else until_feed Shown byte
next_line Shown byte = until_feed Shown byte
next_line LeftOut byte = until_feed LeftOut byte

-- the bytes that are held back of a line
abbrev pub held_back : LineState → List ℕ
held_back (Begun held) = take held order_start
held_back Shown = []
held_back LeftOut = []

-- what is shown with one byte more
abbrev pub byte_shown : LineState → ℕ → List ℕ
byte_shown (Begun held) byte = if goes_on held byte then [] else take held order_start ++ byte ∷ []
byte_shown Shown byte = byte ∷ []
byte_shown LeftOut byte = []

-- what is known of the last line after these bytes
abbrev pub line_after : LineState → List ℕ → LineState
line_after line [] = line
line_after line (byte ∷ bytes) = line_after (next_line line byte) bytes

-- what is shown of these bytes
abbrev pub shown : LineState → List ℕ → List ℕ
shown line [] = []
shown line (byte ∷ bytes) = byte_shown line byte ++ shown (next_line line byte) bytes

-- what is known of the last of some lines that are shown: whether it has ended
abbrev pub ended_line : List ℕ → LineState
ended_line bytes = until_feed Shown (get_or bytes (length bytes - 1) 0)

-- all of these bytes of a line that is shown, and of the lines after it, are shown
abbrev pub AreShown : List ℕ → Type 0
AreShown bytes = (shown Shown bytes ≡ bytes) × (line_after Shown bytes ≡ ended_line bytes)

-- ---- of a text of whole lines

-- whether the text begins with this one
abbrev pub begins : List ℕ → List ℕ → Bool
begins [] text = true
begins (byte ∷ bytes) [] = false
begins (byte ∷ bytes) (other ∷ text) = (byte == other) && begins bytes text

-- the line with its line feed
abbrev pub ended : List ℕ → List ℕ
ended line = line ++ 10 ∷ []

-- it is one line: it has no line feed
abbrev pub IsLine : List ℕ → Type 0
IsLine line = All (λ byte. byte ≢ 10) line

-- these lines without those of orders
abbrev pub without_orders : List (List ℕ) → List (List ℕ)
without_orders lines = filter (λ line. not (begins order_start line)) lines

-- ---- what a writer does

-- what is shown of the bytes that it took was written
abbrev pub ShowsOf : {W : Type 0} → (W → Option (List ℕ)) → Quiet W → Quiet W → List ℕ → Type 0
ShowsOf contents old new taken =
    (new.line ≡ line_after old.line taken) × Appends (contents old.stream) (contents new.stream) (shown old.line taken)

-- the line is shown from here on, with what was held back of it
abbrev pub GivesBack : {W : Type 0} → (W → Option (List ℕ)) → Quiet W → Quiet W → Type 0
GivesBack contents old new = (new.line ≡ Shown) × Appends (contents old.stream) (contents new.stream) (held_back old.line)

-- what was held back was written, and a line of which something was is shown from here on
abbrev pub Flushes : {W : Type 0} → (W → Option (List ℕ)) → Quiet W → Quiet W → Type 0
Flushes contents old new = Appends (contents old.stream) (contents new.stream) (held_back old.line) × ((new.line ≡ old.line) ⊎ (new.line ≡ Shown))

-- all that it took was written, or, where lines of orders are left out, what is shown of that; or it took nothing
abbrev pub Forwards : {W : Type 0} → Bool → (W → Option (List ℕ)) → Quiet W → Quiet W → List ℕ → Type 0
Forwards false contents old new taken = Appends (contents old.stream) (contents new.stream) taken
Forwards true contents old new taken = ShowsOf contents old new taken ⊎ ((taken ≡ []) × GivesBack contents old new)
