-- What bytes do to a sink. A sink is known by the bytes that it has taken, where it tells them, and by its count of faults.
use Rattle.std.specs.Prelude.{◌≡◌, ℕ, ◌+◌, ◌-◌, ◌^◌, ◌<◌, List, [], ◌++◌, length, Option, Bool, true, false}
use Rattle.std.specs.Io.KnownBytes.{Appends}

-- one more fault can be counted
abbrev pub CanFault : ℕ → Type 0
CanFault faults = faults < 2 ^ 64 - 1

module _ {S : Type 0} (taken : S → Option (List ℕ)) (faults : S → ℕ) where
  -- all of the bytes were appended, with no fault
  pub record SinkTook (a : S) (bytes : List ℕ) (b : S) : Type 0 where
    pub appended : Appends (taken a) (taken b) bytes
    pub counted : faults b ≡ faults a

  -- a beginning of the bytes was appended, not all of them, and then came one fault
  pub record SinkFaulted (a : S) (bytes : List ℕ) (b : S) : Type 0 where
    pub before : List ℕ
    pub left_out : List ℕ
    pub whole : bytes ≡ before ++ left_out
    pub proper : 0 < length left_out
    pub appended : Appends (taken a) (taken b) before
    pub counted : faults b ≡ faults a + 1

  -- some bytes went to the sink, and the others wait
  pub record SinkTookBeginning (a : S) (bytes : List ℕ) (b : S) (waiting : List ℕ) : Type 0 where
    pub sent : List ℕ
    pub whole : bytes ≡ sent ++ waiting
    pub took : SinkTook a sent b

  -- What was done by a writer that stops at the first fault: nothing once it had stopped, else all of the bytes, or a beginning.
  abbrev pub Sends : S → Bool → List ℕ → S → Bool → Type 0
  Sends a true bytes b true = SinkTook a [] b
  Sends a true bytes b false = ⊥
  Sends a false bytes b false = CanFault (faults a) → SinkTook a bytes b
  Sends a false bytes b true = CanFault (faults a) → SinkFaulted a bytes b

  -- The same over a buffer: `before` waited at first, `after` waits now.
  abbrev pub SendsBuffered : S → Bool → List ℕ → List ℕ → S → Bool → List ℕ → Type 0
  SendsBuffered a true before bytes b true after = SinkTook a [] b
  SendsBuffered a true before bytes b false after = ⊥
  SendsBuffered a false before bytes b false after = CanFault (faults a) → SinkTookBeginning a (before ++ bytes) b after
  SendsBuffered a false before bytes b true after = CanFault (faults a) → SinkFaulted a (before ++ bytes) b
