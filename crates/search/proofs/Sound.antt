-- What a list of calls leaves, the steps of a search may go on from.
use Rattle.std.proofs.Common.{◌≡◌, ℕ, List}
use Rattle.std.proofs.ByRecursion.{All-get_or, All-from_get_or}
use Rattle.task.specs.Benches.{Bench, Lawful, SettingOf}
use Rattle.tariff.specs.Charges.{Charges}
use Rattle.rules.specs.Marks.{Marking}
use Rattle.search.specs.declared.data.Row.{Row}
use Rattle.search.specs.Rows.{blank}
use Rattle.search.specs.Steps.{Quest, problem, advance, Addable}
use Rattle.search.specs.Session.{Call, searching, state}
use Rattle.search.specs.Promise.{accepted}
use Rattle.search.specs.Counts.{Sound}
use Rattle.search.proofs.Promises.{live_ran, fits_at}
use Rattle.search.proofs.Held.{always_addable}

pub sound : {C : Type 0} (b : Bench) (K : Charges C) → Lawful b → (calls : List (Call C)) (q : Quest C) (rows : List (Row C)) (n : ℕ) → state b K calls ≡ searching q rows n → (m : Marking) → Sound b K q (m.marks b) rows n
sound {C} b K lawful calls q rows n e m j =
    let d = blank K.zero K.le in
    let after = (advance (problem b K q) (m.marks b) j rows n).rows in
    let ran = live_ran b K lawful q (accepted b K calls) j m n rows (fits_at b K lawful calls (searching q rows n) e) j in
    All-from_get_or (λ (r : Row C). SettingOf b r.setting × Addable (problem b K q) r.charge) after d
    (λ k h. (ran.inv.proper k h, All-get_or (λ (r : Row C). Addable (problem b K q) r.charge) after k d h (always_addable b K lawful calls q rows n e m j)))
