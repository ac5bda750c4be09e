-- Atoms in bytes, one after another.
use Rattle.std.specs.Prelude.{ℕ, List, [], ◌∷◌}
use Rattle.task.specs.declared.data.Atom.{Atom}
use Rattle.book.specs.declared.atoms.AtomsIn.{AtomsIn}

-- the atoms that bytes hold, two for each: its variable and its value
abbrev pub atoms_in : List ℕ → List Atom
atoms_in [] = []
atoms_in (v ∷ []) = []
atoms_in (v ∷ x ∷ more) = record { variable = v; value = x } ∷ atoms_in more

-- what is left of atoms that are read one by one
abbrev pub atoms_left : AtomsIn → List Atom
atoms_left s = atoms_in s.bytes.now
