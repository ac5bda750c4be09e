-- What is said of a walk: a list of actions, done one after another from a start setting.
use Rattle.std.specs.Prelude.{◌≡◌, ℕ, ◌+◌, ◌≤◌, min, Bool, cond, List, [], ◌∷◌, length, replicate, Some, None, Ok, Err, Option, Result, ◌==◌, nat_lt, slice_set}
use Rattle.std.specs.List.{AllByRecursion}
use Rattle.task.specs.declared.data.Atom.{Atom}
use Rattle.task.specs.declared.refusal.Fault.TheVariants.{StartOutside}
use Rattle.task.specs.declared.refusal.Refusal.{Refusal}
use Rattle.task.specs.Settings.{met, unmet, assigned, outside}
use Rattle.task.specs.Benches.{Act, Bench, act, act_of}
use Rattle.task.specs.Refusals.{refusal}
use Rattle.tariff.specs.declared.charge.Pressed.{Pressed}
use Rattle.tariff.specs.Charges.{Billable}
use Rattle.tariff.specs.Time.{time}
use Rattle.tariff.specs.Presses.{pressing}
use Rattle.tariff.specs.Totals.{sum, and_act}
use Rattle.book.specs.Format.{parse_into}
use Rattle.text.specs.Fields.{before, after, numbers_on}
use Rattle.validate.specs.declared.data.Standing.{Standing}
use Rattle.validate.specs.declared.data.Line.{Line}
use Rattle.validate.specs.declared.data.Line.TheVariants as line

-- a line of what is said, with each action's atoms as lists
pub data Said : Type 0 where
  refused : Refusal → Said
  not_a_number : ℕ → ℕ → Said
  wrong_count : ℕ → ℕ → Said
  too_many : Said
  done : ℕ → Act → ℕ → Pressed → Said
  no_action : ℕ → ℕ → Said
  not_applicable : ℕ → ℕ → Atom → Said
  finished : Bool → ℕ → Pressed → Said

abbrev pub shown : Line → Said
shown (line.Refused r) = refused r
shown (line.NotANumber l f) = not_a_number l f
shown (line.WrongCount given wanted) = wrong_count given wanted
shown line.TooMany = too_many
shown (line.Done k a costs) = done k (act_of a) costs.time costs.presses
shown (line.NoAction i k) = no_action i k
shown (line.NotApplicable i k a) = not_applicable i k a
shown (line.End goal costs) = finished goal costs.time costs.presses

-- the walk with one action more
abbrev pub moved : Standing → Act → Standing
moved w a = record { step = w.step + 1; setting = assigned w.setting a.effects; costs = record { time = and_act time w.costs.time a; presses = and_act pressing w.costs.presses a } }

-- one action of a walk: it is done, or why not
abbrev pub by_unmet : Option Atom → ℕ → ℕ → Act → Result Act Said
by_unmet None i k a = Ok a
by_unmet (Some atom) i k a = Err (not_applicable i k atom)

abbrev pub tried : Bench → Standing → ℕ → Result Act Said
tried b w k =
    cond (nat_lt k (length b.actions)) (by_unmet (unmet w.setting (act b k).conditions) w.step k (act b k)) (Err (no_action w.step k))

abbrev pub said_of : Result Act Said → Standing → ℕ → (Standing → List Said) → List Said
said_of (Ok a) w k go = done k a (moved w a).costs.time (moved w a).costs.presses ∷ go (moved w a)
said_of (Err s) w k go = s ∷ []

-- what is said of the actions from here on
abbrev pub steps : Bench → Standing → List ℕ → List Said
steps b w [] = finished (met w.setting b.goal) w.costs.time w.costs.presses ∷ []
steps b w (k ∷ more) = said_of (tried b w k) w k (λ next. steps b next more)

abbrev pub standing : List ℕ → Standing
standing s = record { step = 1; setting = s; costs = record { time = time.zero; presses = pressing.zero } }

-- what is said of a walk from a setting
abbrev pub walked : Bench → List ℕ → List ℕ → List Said
walked b s numbers = cond (nat_lt 65536 (length numbers)) (too_many ∷ []) (steps b (standing s) numbers)

-- the setting with the values from place i on, a value over 255 as 255
abbrev pub placed : List ℕ → ℕ → List ℕ → List ℕ
placed s i [] = s
placed s i (x ∷ more) = placed (slice_set s i (min x 255)) (i + 1) more

-- the setting of the values, with 0 past the last
abbrev pub setting_of : List ℕ → List ℕ
setting_of values = placed (replicate 64 0) 0 values

abbrev pub within : List ℕ → Option ℕ → Result (List ℕ) Said
within s (Some v) = Err (refused (refusal StartOutside v))
within s None = Ok s

-- the start's setting, of a bench of these sizes, or why there is none
abbrev pub begun : List ℕ → List ℕ → Result (List ℕ) Said
begun sizes values =
    cond (length values == length sizes)
    (within (setting_of values) (outside sizes 0 (setting_of values)))
    (Err (wrong_count (length values) (length sizes)))

abbrev pub by_actions : Bench → List ℕ → Result (List ℕ) ℕ → List Said
by_actions b s (Ok numbers) = walked b s numbers
by_actions b s (Err field) = not_a_number 2 field ∷ []

abbrev pub by_start : Bench → Result (List ℕ) Said → Result (List ℕ) ℕ → List Said
by_start b (Ok s) numbers = by_actions b s numbers
by_start b (Err line) numbers = line ∷ []

abbrev pub by_values : Bench → Result (List ℕ) ℕ → Result (List ℕ) ℕ → List Said
by_values b (Ok values) numbers = by_start b (begun b.sizes values) numbers
by_values b (Err field) numbers = not_a_number 1 field ∷ []

-- what is said of the walk that a text asks for: its first line has the start's values, its second the
-- actions' numbers
abbrev pub asked : Bench → List ℕ → List Said
asked b input = by_values b (numbers_on (before 10 input)) (numbers_on (before 10 (after 10 input)))

abbrev pub by_book : Result Bench Refusal → List ℕ → List Said
by_book (Ok b) input = asked b input
by_book (Err e) input = refused e ∷ []

-- what is said of a book and of what a text asks for; the book's actions go into 1,024 places
abbrev pub said : List ℕ → List ℕ → List Said
said book input = by_book (parse_into 1024 book) input

-- the walk's charges are those of the actions that it has done, at most 65,536
pub record Counted (w : Standing) : Type 0 where
  pub acts : List Act
  pub billable : AllByRecursion Billable acts
  pub long : length acts + 1 ≡ w.step
  pub low : w.step ≤ 65537
  pub time_is : w.costs.time ≡ sum time acts
  pub presses_is : w.costs.presses ≡ sum pressing acts
