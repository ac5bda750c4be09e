-- Refusals: the number and the layer of each fault.
use Rattle.std.specs.Prelude.{ℕ, List, ◌++◌, Err, Result, codes}
use Rattle.std.specs.Fmt.{decimal}
use Rattle.task.specs.declared.refusal.Fault.{Fault}
use Rattle.task.specs.declared.refusal.Fault.TheVariants.{CutShort, UnknownKind, OutOfPlace, WrongLength, TooMany, ValueCount, OutsideBench, NotRising, NoEffect, OverLimit, RepeatsCondition, NoGoal, RowCount, ShortTable, StartOutside, NoPlan, NoStepLeft, BadLine, OutOfTurn, LongBook}
use Rattle.task.specs.declared.refusal.Layer.{Layer}
use Rattle.task.specs.declared.refusal.Layer.TheVariants.{Book, Tables, Bench, Console}
use Rattle.task.specs.declared.refusal.Refusal.{Refusal}

abbrev pub number_of : Fault → ℕ
number_of CutShort = 1
number_of UnknownKind = 2
number_of OutOfPlace = 3
number_of WrongLength = 4
number_of TooMany = 5
number_of ValueCount = 6
number_of OutsideBench = 7
number_of NotRising = 8
number_of NoEffect = 9
number_of OverLimit = 10
number_of RepeatsCondition = 11
number_of NoGoal = 12
number_of RowCount = 20
number_of ShortTable = 21
number_of StartOutside = 30
number_of NoPlan = 31
number_of NoStepLeft = 32
number_of BadLine = 40
number_of OutOfTurn = 41
number_of LongBook = 42

-- who is to mend it: 1 the book's maker, 2 whoever lends tables, 3 the bench's user, 4 the console's user
abbrev pub layer_of : Fault → ℕ
layer_of CutShort = 1
layer_of UnknownKind = 1
layer_of OutOfPlace = 1
layer_of WrongLength = 1
layer_of TooMany = 1
layer_of ValueCount = 1
layer_of OutsideBench = 1
layer_of NotRising = 1
layer_of NoEffect = 1
layer_of OverLimit = 1
layer_of RepeatsCondition = 1
layer_of NoGoal = 1
layer_of RowCount = 2
layer_of ShortTable = 2
layer_of StartOutside = 3
layer_of NoPlan = 3
layer_of NoStepLeft = 3
layer_of BadLine = 4
layer_of OutOfTurn = 4
layer_of LongBook = 4

abbrev pub layer_number : Layer → ℕ
layer_number Book = 1
layer_number Tables = 2
layer_number Bench = 3
layer_number Console = 4

abbrev pub refusal : Fault → ℕ → Refusal
refusal fault place = record { fault = fault; place = place }

abbrev pub refuse : {X : Type 0} → Fault → ℕ → Result X Refusal
refuse fault place = Err (refusal fault place)

-- what a refusal is printed as
abbrev pub output_of : Refusal → List ℕ
output_of r = codes "refused: number " ++ (decimal (number_of r.fault) ++ (codes ", layer " ++ (decimal (layer_of r.fault) ++ (codes ", place " ++ decimal r.place))))
