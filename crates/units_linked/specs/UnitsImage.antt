-- What linking comes to where no symbol is in the way.
use Rattle.std.specs.Prelude.{List, length, Result, Ok, Err, nat_lt, if◌then◌else◌}
use Rattle.object_format.specs.Image.{Linked, image_spelling}
use Rattle.object_format.specs.Object.{Unlinked}
use Rattle.symbol_link.specs.declared.fault.LinkFault.{LinkFault}
use Rattle.symbol_link.specs.Linked.{entry_symbol, image_of, most, or_too_large}
use Rattle.symbol_link.specs.Symbols.{definition_of, place_of}
use Rattle.units_linked.specs.declared.linking.TooLarge.{TooLarge}

-- the image of objects one of which has `main::main`
abbrev pub whole_image : List Unlinked → Linked
whole_image objects = image_of objects (place_of (definition_of objects entry_symbol))

-- the linker's answer
abbrev pub image_or_too_large : List Unlinked → Result Linked LinkFault
image_or_too_large objects = or_too_large (whole_image objects)

-- the same where too large is all that can be in the way
abbrev pub units_image : List Unlinked → Result Linked TooLarge
units_image objects = if nat_lt most (length (image_spelling (whole_image objects))) then Err (record {}) else Ok (whole_image objects)
