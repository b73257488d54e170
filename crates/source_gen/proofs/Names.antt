-- Names of files are ASCII.
use Rattle.std.proofs.Common.{ℕ, ◌<◌, ◌^◌, ◌++◌, [], codes, lit<, rules, arith}
use Rattle.std.specs.Fmt.{decimal}
use Rattle.std.specs.Str.{IsAscii}
use Rattle.std.proofs.lemmas.Fmt.{IsAscii-decimal}
use Rattle.std.proofs.lemmas.Str.{IsAscii-append}
use Rattle.std.proofs.lemmas.Str.Ascii.{IsAscii-cons}
use Rattle.source_gen.specs.Sources.{module_name}

pub IsAscii-module_name : (k : ℕ) → k < 2 ^ 16 → IsAscii (module_name k)
IsAscii-module_name k small =
    let number : IsAscii (decimal k) = IsAscii-decimal k (omega arith) in
    let end : IsAscii (codes ".larch" ++ []) = search rules in
    IsAscii-cons 109 (decimal k ++ (codes ".larch" ++ [])) (lit< tt) (IsAscii-append (decimal k) (codes ".larch" ++ []) number end)
