use Rattle.std.proofs.Common.{rules, ◌≡◌, List, unwrap_or, take, drop, sym, ap, ◌∙◌, subst}
use Rattle.std.specs.Result.{result_err}
use Rattle.rules.specs.Marks.{Zeros}
use Rattle.search.specs.declared.data.Row.{Row}
use Rattle.search.specs.declared.sizes.Progress.{Progress}
use Rattle.search.specs.declared.sizes.Progress.TheVariants.{Going}
use Rattle.search.specs.Steps.{State}
use Rattle.search.specs.Lined.{Lined}
use Rattle.search.specs.Counts.{outcome_of}
use Rattle.search.proofs.Running.{stands_so}
use Rattle.search.proofs.steps.run.Goals as goal

pub returns-clause-rest : goal.returns-clause-rest
returns-clause-rest g c =
    let u = c.run_steps-ended.new.self.sizes.used in
    subst (λ x. drop u x ≡ drop u c.args.rows.now) (search rules) c.run_steps-ended.ensures.rest

pub returns-clause-work : goal.returns-clause-work
returns-clause-work g c = λ z. subst (λ x. Zeros (take 4096 x)) (search rules) (c.run_steps-ended.ensures.clear z)

pub returns-clause-ran : goal.returns-clause-ran
returns-clause-ran g c = λ start lawful sound lined.
    let K = g.T.Tariff.charges c.args.tariff.now in
    let new = c.run_steps-ended.new.self in
    let u = new.sizes.used in
    let n = new.expanded in
    let y = c.run_steps-ended.result in
    let stands = λ (x : List (Row g.row.T-Charge.Denot)) (p : Progress). (let st : State g.row.T-Charge.Denot = record { rows = take u x; count = n; outcome = outcome_of p } in st) in
    let told : unwrap_or (result_err y) Going ≡ c.unwrap_or-progress.result = ap (λ o. unwrap_or o Going) (sym c.err.ensures.value) ∙ sym c.unwrap_or-progress.ensures in
    c.run_steps-ended.ensures.ran start lawful sound lined
    ∙ stands_so y (take u new.rows.now) n ∙ ap (stands new.rows.now) told ∙ ap (λ x. stands x c.unwrap_or-progress.result) (search rules)

both : {X Y : Type 0} (P : X → Y → Type 0) {x x' : X} {y y' : Y} → x ≡ x' → y ≡ y' → P x y → P x' y'
both {X} {Y} P {x} {x'} {y} {y'} e f p = subst (λ z. P z y') e (subst (P x) f p)

pub returns-clause-lined : goal.returns-clause-lined
returns-clause-lined g c = λ lined.
    let K = g.T.Tariff.charges c.args.tariff.now in
    let new = c.run_steps-ended.new.self in
    both (λ x y. Lined K.le (take new.sizes.used x) new.sizes.waiting y) (search rules) (search rules) (c.run_steps-ended.ensures.lined lined)
