-- Where the calls of an object lead, and what copying its code comes to.
use Rattle.std.specs.Prelude.{ℕ, ◌+◌, length}
use Rattle.symbol_link.specs.declared.relocating.Callees.{Callees}
use Rattle.symbol_link.specs.Linked.{callee}

-- the place of what a call of this number calls
abbrev pub place_by : Callees → ℕ → ℕ
place_by c = callee c.start c.own c.externals.now

-- the numbers of calls are below this one
abbrev pub reach : Callees → ℕ
reach c = c.own + length c.externals.now
