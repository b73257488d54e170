mod AllParsed
mod Decided
mod InParts
mod Kept
