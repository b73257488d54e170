-- How many bytes the spelling of an image has, by the objects that it is made of.
use Rattle.std.specs.Prelude.{ℕ, ◌+◌, ◌-◌, List, [], ◌∷◌, length, Option, Some, None, nat_lt, if◌then◌else◌}
use Rattle.object_format.specs.Object.{Unlinked, UnlinkedFn}
use Rattle.object_format.specs.Version.{code_offset, functions_place}
use Rattle.object_format.specs.declared.version.Version.TheVariants.{Two}

-- functions: their code, and what stands before it
abbrev pub size_of : List UnlinkedFn → ℕ
size_of [] = 0
size_of (f ∷ fs) = code_offset Two + length f.code + size_of fs

abbrev pub sizes_of : List Unlinked → ℕ
sizes_of [] = 0
sizes_of (o ∷ os) = size_of o.functions + sizes_of os

-- the whole spelling: what stands before the functions, and those
abbrev pub image_size : List Unlinked → ℕ
image_size objects = functions_place + sizes_of objects

-- what n leaves of the room
abbrev pub left_of : ℕ → ℕ → Option ℕ
left_of room n = if nat_lt room n then None else Some (room - n)
