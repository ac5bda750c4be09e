-- Bytes put one after another.
use Rattle.std.proofs.Common.{◌≡◌, ℕ, ◌+◌, ◌-◌, ◌*◌, ◌<◌, ◌≤◌, List, [], ◌∷◌, ◌++◌, map, length, get_or, take, drop, sym, refl, ap, ◌∙◌, subst, arith, length-append, length-drop, length-take, sum_by}
use Rattle.std.proofs.lemmas.List.{append_assoc, drop-drop, take_at, drop_at, length-take-le, take_more, flat_map_more}
use Rattle.std.proofs.lemmas.List.Concat.{length-flat_map}
use Rattle.std.proofs.lemmas.List.Folds.{length-flat_map-take, flat_map-map}
use Rattle.std.proofs.lemmas.List.Elements.{All-from_get_or}
use Rattle.std.proofs.lemmas.List.Sums.{sum_by-le}
use Rattle.std.specs.List.{flat_map}
use Rattle.task.specs.declared.data.Action.{Action}
use Rattle.task.specs.declared.data.Atom.{Atom}
use Rattle.task.specs.declared.data.Atoms.{Atoms}
use Rattle.task.specs.Settings.{listed}
use Rattle.task.specs.Benches.{Act, Bench, act_of}
use Rattle.book.specs.Records.{action_part}
use Rattle.book.specs.Print.{atoms_bytes, both_bytes, body_bytes, variable_bytes, action_bytes, goal_bytes, print}
use Rattle.book.specs.declared.writer.Pen.{Pen}
use Rattle.book.specs.Writer.{HasRoom, Put, Writes}

pub put_length : {before after : List ℕ} {at next : ℕ} {bytes : List ℕ} → Put before after at next bytes → length after ≡ length before
put_length {before} {after} {at} {next} {bytes} p =
    let front : length (take at before) ≡ at = length-take-le at before (omega (arith, p.size, p.room)) in
    ap length p.is ∙ omega (arith, length-append (take at before) (bytes ++ drop next before), length-append bytes (drop next before), length-drop next before, front, p.size, p.room)

pub put_then : {a b c : List ℕ} {i j k : ℕ} {xs ys : List ℕ} → Put a b i j xs → Put b c j k ys → Put a c i k (xs ++ ys)
put_then {a} {b} {c} {i} {j} {k} {xs} {ys} p q =
    let front : length (take i a) ≡ i = length-take-le i a (omega (arith, p.size, p.room)) in
    let far : length (take i a ++ xs) ≡ j = length-append (take i a) xs ∙ omega (arith, front, p.size) in
    let split : b ≡ (take i a ++ xs) ++ drop j a = p.is ∙ sym (append_assoc (take i a) xs (drop j a)) in
    let first : take j b ≡ take i a ++ xs = ap (take j) split ∙ take_at (take i a ++ xs) (drop j a) j far in
    let past : drop j b ≡ drop j a = ap (drop j) split ∙ drop_at (take i a ++ xs) (drop j a) j far in
    let on : j + (k - j) ≡ k = omega (arith, q.size) in
    let rest : drop k b ≡ drop k a = ap (λ n. drop n b) (sym on) ∙ sym (drop-drop (k - j) j b) ∙ ap (drop (k - j)) past ∙ drop-drop (k - j) j a ∙ ap (λ n. drop n a) on in
    record {
      size = omega (arith, p.size, q.size, length-append xs ys);
      room = omega (arith, q.room, put_length p);
      is = q.is ∙ (λ n. first n ++ (ys ++ rest n)) ∙ append_assoc (take i a) xs (ys ++ drop k a) ∙ ap (λ z. take i a ++ z) (sym (append_assoc xs ys (drop k a)));
    }

-- one after another
pub writes_then : {a b c : Pen} {xs ys : List ℕ} → Writes a b xs → Writes b c ys → Writes a c (xs ++ ys)
writes_then w v = record { same = v.same ∙ w.same; put = put_then w.put v.put }

pub writes_as : {a b : Pen} {xs ys : List ℕ} → Writes a b xs → xs ≡ ys → Writes a b ys
writes_as {a} {b} w e = subst (Writes a b) e w

-- the next of a list, whose first i are written
pub room_here : {X : Type 0} (f : X → List ℕ) (xs : List X) (i : ℕ) (x : X) {before now : Pen} → i < length xs → x ≡ get_or xs i x → HasRoom before (flat_map f xs) → Writes before now (flat_map f (take i xs)) → HasRoom now (f x)
room_here f xs i x h e room w =
    omega (arith, length-flat_map-take f xs i x h, ap (λ z. length (f z)) e, w.put.size, put_length w.put)

pub writes_on : {X : Type 0} (f : X → List ℕ) (xs : List X) (i : ℕ) (x : X) {before now after : Pen} → i < length xs → x ≡ get_or xs i x → Writes before now (flat_map f (take i xs)) → Writes now after (f x) → Writes before after (flat_map f (take (i + 1) xs))
writes_on f xs i x h e w v =
    writes_as (writes_then w v) (flat_map_more f [] (take i xs) x ∙ ap (flat_map f) (ap (λ z. take i xs ++ z ∷ []) e ∙ sym (take_more xs i x h)))

pub atoms_size : (atoms : List Atom) → length (atoms_bytes atoms) ≡ 2 * length atoms
atoms_size [] = refl
atoms_size (a ∷ more) = omega (arith, atoms_size more)

pub both_size : (conditions effects : List Atom) → length (both_bytes conditions effects) ≡ 2 + 2 * (length conditions + length effects)
both_size conditions effects = omega (arith, length-append (atoms_bytes conditions) (atoms_bytes effects), atoms_size conditions, atoms_size effects)

pub body_size : (a : Act) → length (body_bytes (action_part a)) ≡ 8 + 2 * (length a.conditions + length a.effects)
body_size a = omega (arith, both_size a.conditions a.effects)

pub few_listed : {n : ℕ} (atoms : Atoms n) → length (listed atoms) ≤ n
few_listed {n} atoms = omega (arith, length-take atoms.count atoms.items, atoms.fits.0)

pub variables_size : (sizes : List ℕ) → length (flat_map variable_bytes sizes) ≡ 5 * length sizes
variables_size [] = refl
variables_size (n ∷ more) = omega (arith, variables_size more)

-- how many bytes each part of a book takes
pub book_parts : (b : Bench) → length (print b) ≡ 5 * length b.sizes + (length (flat_map action_bytes b.actions) + (5 + 2 * length b.goal))
book_parts b =
    omega (arith, length-append (flat_map variable_bytes b.sizes) (flat_map action_bytes b.actions ++ goal_bytes b.goal), length-append (flat_map action_bytes b.actions) (goal_bytes b.goal), variables_size b.sizes, atoms_size b.goal)

-- the records of actions
pub actions_said : (actions : List Action) → flat_map (λ a. action_bytes (act_of a)) actions ≡ flat_map action_bytes (map act_of actions)
actions_said actions = sym (flat_map-map action_bytes act_of actions)

pub actions_length : (actions : List Action) → length (flat_map action_bytes (map act_of actions)) ≡ sum_by (λ a. length (action_bytes (act_of a))) actions
actions_length actions = ap length (sym (actions_said actions)) ∙ length-flat_map (λ a. action_bytes (act_of a)) actions

pub actions_limit : (actions : List Action) → sum_by (λ a. length (action_bytes (act_of a))) actions ≤ length actions * 76
actions_limit [] = omega arith
actions_limit (a ∷ more) = sum_by-le (λ b. length (action_bytes (act_of b))) 76 (a ∷ more) (All-from_get_or (λ b. length (action_bytes (act_of b)) ≤ 76) (a ∷ more) a (λ i _. small (get_or (a ∷ more) i a)))
  where
    small : (b : Action) → length (action_bytes (act_of b)) ≤ 76
    small b = omega (arith, body_size (act_of b), few_listed b.conditions, few_listed b.effects)
