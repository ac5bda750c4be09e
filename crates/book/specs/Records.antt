-- The records of a bench book: how they are laid out, and what they say.
use Rattle.std.specs.Prelude.{◌≡◌, ℕ, ◌+◌, ◌*◌, ◌<◌, ◌≤◌, cond, ◌&&◌, List, length, drop, Some, None, Ok, Err, Option, Result, ◌==◌, nat_le, slice_index, IfOk}
use Rattle.std.specs.List.{between}
use Rattle.task.specs.declared.data.Atom.{Atom}
use Rattle.task.specs.declared.refusal.Fault.TheVariants.{CutShort, UnknownKind, WrongLength}
use Rattle.task.specs.declared.refusal.Refusal.{Refusal}
use Rattle.task.specs.Benches.{Act}
use Rattle.task.specs.Refusals.{refuse}
use Rattle.book.specs.Atoms.{atoms_in}
use Rattle.book.specs.declared.records.Kind.{Kind}
use Rattle.book.specs.declared.records.Kind.TheVariants as kind
use Rattle.book.specs.declared.records.Head.{Head}
use Rattle.book.specs.declared.records.Raw.{Raw}
use Rattle.book.specs.declared.records.SpelledAction.{SpelledAction}
use Rattle.book.specs.declared.records.Record.{Record}
use Rattle.book.specs.declared.records.Records.{Records}
use Rattle.book.specs.declared.records.Record.TheVariants as borrowed

-- two bytes as a number, the low one first
abbrev pub word : List ℕ → ℕ → ℕ
word bytes i = slice_index bytes i + 256 * slice_index bytes (i + 1)

-- the number of each kind of record
abbrev pub kind_of : ℕ → Option Kind
kind_of n = cond (n == 1) (Some kind.Variable) (cond (n == 2) (Some kind.Action) (cond (n == 3) (Some kind.Goal) None))

abbrev pub headed : Option Kind → ℕ → ℕ → Result Head Refusal
headed None size at = refuse UnknownKind at
headed (Some k) size at = Ok (record { kind = k; size = size })

-- the head of the record that stands first in the bytes, and at `at` in the book: the length of its body,
-- which lies in the bytes, and its kind
abbrev pub head_of : List ℕ → ℕ → Result Head Refusal
head_of bytes at =
    cond (nat_le 4 (length bytes) && nat_le (4 + word bytes 0) (length bytes))
    (headed (kind_of (word bytes 2)) (word bytes 0) at)
    (refuse CutShort at)

-- what a record says: a variable's number of values, an action, or the goal
pub data Parts : Type 0 where
  variable_part : ℕ → Parts
  action_part : Act → Parts
  goal_part : List Atom → Parts

-- the action with these numbers, and the atoms that the bytes hold
abbrev pub act_in : ℕ → ℕ → List ℕ → List ℕ → Act
act_in tenths presses conditions effects =
    record { tenths = tenths; presses = presses; conditions = atoms_in conditions; effects = atoms_in effects }

-- what a body of the kind says; its length is that of its kind and its counts
abbrev pub parts_of : Kind → List ℕ → ℕ → Result Parts Refusal
parts_of kind.Variable body at = cond (length body == 1) (Ok (variable_part (slice_index body 0))) (refuse WrongLength at)
parts_of kind.Action body at =
    cond (nat_le 8 (length body) && length body == 8 + 2 * (slice_index body 6 + slice_index body 7))
    (Ok (action_part (act_in (word body 0 + 65536 * word body 2) (word body 4) (between 8 (8 + 2 * slice_index body 6) body) (between (8 + 2 * slice_index body 6) (length body) body))))
    (refuse WrongLength at)
parts_of kind.Goal body at =
    cond (nat_le 1 (length body) && length body == 1 + 2 * slice_index body 0) (Ok (goal_part (atoms_in (between 1 (length body) body)))) (refuse WrongLength at)

-- the action that is spelled so
abbrev pub act_spelled : SpelledAction → Act
act_spelled s = act_in s.tenths s.presses s.conditions.bytes.now s.effects.bytes.now

-- what a record says whose parts are borrowed from the book, and where it stands
abbrev pub shown : Record → Parts
shown (borrowed.Variable values at) = variable_part values
shown (borrowed.Action action at) = action_part (act_spelled action)
shown (borrowed.Goal atoms at) = goal_part (atoms_in atoms.bytes.now)

abbrev pub offset : Record → ℕ
offset (borrowed.Variable values at) = at
offset (borrowed.Action action at) = at
offset (borrowed.Goal atoms at) = at

abbrev pub shown_result : Result Record Refusal → Result Parts Refusal
shown_result (Ok r) = Ok (shown r)
shown_result (Err e) = Err e

-- what is read of a body as one of the kind, and where it says that it stands
pub record Reads (kind : Kind) (raw : Raw) (result : Result Record Refusal) : Type 0 where
  pub value : shown_result result ≡ parts_of kind raw.body.now raw.at
  pub place : IfOk result (λ p. offset p ≡ raw.at)

-- the bytes that are left of records that are read one by one
abbrev pub left_of : Records → List ℕ
left_of s = s.left.now

-- the record that stands first in the bytes that are left, and the bytes after it
pub record FirstRecord (before : Records) (raw : Raw) (after : Records) : Type 0 where
  pub head : Head
  pub is_head : Ok head ≡ head_of before.left.now before.at
  pub within : 4 + head.size ≤ length before.left.now
  pub kind : raw.kind ≡ head.kind
  pub body : raw.body.now ≡ between 4 (4 + head.size) before.left.now
  pub place : raw.at ≡ before.at
  pub left : after.left.now ≡ drop (4 + head.size) before.left.now
  pub on : after.at ≡ before.at + (4 + head.size)

-- the next record of those that are left; the refusal of its head, after which nothing is left; or none, where
-- no byte is left
abbrev pub Handed : Records → Option (Result Raw Refusal) → Records → Type 0
Handed before None after = length before.left.now ≡ 0
Handed before (Some (Ok raw)) after = (0 < length before.left.now) × FirstRecord before raw after
Handed before (Some (Err e)) after = (0 < length before.left.now) × (Err e ≡ head_of before.left.now before.at) × (length after.left.now ≡ 0)
