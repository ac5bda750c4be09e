-- What is left of a line.
use Rattle.std.specs.Prelude.{ℕ, List, [], Some, None, Option}
use Rattle.std.specs.Borrow.{Bor}
use Rattle.text.specs.Fields.{pieces}
use Rattle.console.specs.declared.fields.Fields.{Fields}

-- the fields of what is left: none where no space ended the field before
abbrev pub fields_in : Option (Bor (List ℕ)) → List (List ℕ)
fields_in None = []
fields_in (Some rest) = pieces 32 rest.now

abbrev pub remaining : Fields → List (List ℕ)
remaining fields = fields_in fields.left
