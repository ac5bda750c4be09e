-- What an atom is printed as.
use Rattle.std.specs.Prelude.{ℕ, List, ◌++◌, codes}
use Rattle.std.specs.Fmt.{decimal}
use Rattle.task.specs.declared.data.Atom.{Atom}

-- its variable, and its value after a sign
abbrev pub output_of : Atom → List ℕ
output_of a = decimal a.variable ++ (codes "=" ++ decimal a.value)
