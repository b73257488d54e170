-- The parts of the listing of an image and of an object: for each function a line and those of its instructions.
use Rattle.std.specs.Prelude.{ℕ, ◌+◌, Bool, true, false, List, [], ◌∷◌, ◌++◌, length, slice_index, codes, Option, Some, None}
use Rattle.std.specs.List.{flat_map}
use Rattle.std.specs.Fmt.{decimal, signed_decimal}
use Rattle.std.specs.Int.{w8, w32, w64, from_be_bytes, cast_signed}
use Rattle.object_format.specs.Code.{Instruction, pieces_from}
use Rattle.object_format.specs.Image.{Linked, LinkedFn}
use Rattle.object_format.specs.Object.{Unlinked, UnlinkedFn, body_of}
use Rattle.object_format.specs.declared.opcode.Opcode.{Opcode}
use Rattle.object_format.specs.declared.opcode.Operator.{Operator}
use Rattle.object_format.specs.declared.opcode.Operator.TheVariants.{Add, Sub, Mul, Div, Rem, Equal, NotEqual, Less, AtMost, Greater, AtLeast}
use Rattle.object_format.specs.declared.opcode.Opcode.TheVariants.{Push8, Push64, Load, Store, Pop, Compute, Neg, Not, Jump, JumpZero, Call, Return, Print, Trap, Dup, Nop}

-- the table of names
abbrev pub operator_name : Operator → List ℕ
operator_name Add = codes "ADD"
operator_name Sub = codes "SUB"
operator_name Mul = codes "MUL"
operator_name Div = codes "DIV"
operator_name Rem = codes "REM"
operator_name Equal = codes "EQ"
operator_name NotEqual = codes "NE"
operator_name Less = codes "LT"
operator_name AtMost = codes "LE"
operator_name Greater = codes "GT"
operator_name AtLeast = codes "GE"

abbrev pub name_of : Opcode → List ℕ
name_of Push8 = codes "PUSH8"
name_of Push64 = codes "PUSH64"
name_of Load = codes "LOAD"
name_of Store = codes "STORE"
name_of Pop = codes "POP"
name_of (Compute operator) = operator_name operator
name_of Neg = codes "NEG"
name_of Not = codes "NOT"
name_of Jump = codes "JMP"
name_of JumpZero = codes "JZ"
name_of Call = codes "CALL"
name_of Return = codes "RET"
name_of Print = codes "PRINT"
name_of Trap = codes "TRAP"
name_of Dup = codes "DUP"
name_of Nop = codes "NOP"

-- the operand in decimal behind a space, where there is one: signed of a push, else a number of one byte or of four
abbrev pub operand_text : Opcode → List ℕ → List ℕ
operand_text Push8 operand = codes " " ++ signed_decimal (cast_signed w8 (slice_index operand 0))
operand_text Push64 operand = codes " " ++ signed_decimal (cast_signed w64 (from_be_bytes w64 operand))
operand_text Load operand = codes " " ++ decimal (slice_index operand 0)
operand_text Store operand = codes " " ++ decimal (slice_index operand 0)
operand_text Jump operand = codes " " ++ decimal (from_be_bytes w32 operand)
operand_text JumpZero operand = codes " " ++ decimal (from_be_bytes w32 operand)
operand_text Call operand = codes " " ++ decimal (from_be_bytes w32 operand)
operand_text other operand = []

-- the line of an instruction: its offset, its name, and its operand
abbrev pub instruction_line : ℕ → Opcode → List ℕ → List ℕ
instruction_line offset opcode operand = codes "  " ++ decimal offset ++ codes " " ++ name_of opcode ++ operand_text opcode operand ++ codes "\n"

abbrev pub piece_line : ℕ → Option Instruction → List ℕ
piece_line offset None = []
piece_line offset (Some i) = instruction_line offset i.opcode i.operand

-- the lines of code that begins at this offset
abbrev pub code_lines : ℕ → List ℕ → List ℕ
code_lines offset code = flat_map (λ p. piece_line p.offset p.instruction) (pieces_from offset code)

-- what a function takes, gives, keeps in slots and has of code, the end of that line, and its instructions
abbrev pub body_text : LinkedFn → List ℕ
body_text f = codes "params " ++ decimal f.params ++ codes " result " ++ decimal f.result ++ codes " slots " ++ decimal f.slots ++ codes " code " ++ decimal (length f.code) ++ codes "\n" ++ code_lines 0 f.code

abbrev pub function_text : ℕ → LinkedFn → List ℕ
function_text number f = codes "fn " ++ decimal number ++ codes " " ++ body_text f

-- the texts of these, numbered from here on
abbrev pub numbered : {A : Type 0} → (ℕ → A → List ℕ) → ℕ → List A → List (List ℕ)
numbered text number [] = []
numbered text number (x ∷ xs) = text number x ∷ numbered text (number + 1) xs

-- the parts of an image's listing: the line of its entry, and each function
abbrev pub image_parts : Linked → List (List ℕ)
image_parts image = (codes "entry " ++ decimal image.entry ++ codes "\n") ∷ numbered function_text 0 image.functions

-- the same of a function of an object, with its symbol
abbrev pub kind_word : Bool → List ℕ
kind_word true = codes "external "
kind_word false = codes "internal "

abbrev pub unlinked_text : ℕ → UnlinkedFn → List ℕ
unlinked_text number f = codes "fn " ++ decimal number ++ codes " " ++ f.symbol ++ codes " " ++ kind_word f.external ++ body_text (body_of f)

-- an external, by the number that calls have for it
abbrev pub use_line : ℕ → List ℕ → List ℕ
use_line number symbol = codes "use " ++ decimal number ++ codes " " ++ symbol ++ codes "\n"

-- the parts of an object's listing: each function, and each external with numbers that go on
abbrev pub object_parts : Unlinked → List (List ℕ)
object_parts object = numbered unlinked_text 0 object.functions ++ numbered use_line (length object.functions) object.externals
