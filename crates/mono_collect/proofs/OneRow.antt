-- The calls of one instance are read.
use Rattle.std.proofs.Common.{◌≡◌, ℕ, suc, ◌+◌, ◌<◌, ◌≤◌, List, [], ◌∷◌, ◌++◌, length, map, take, get_or, refl, sym, ap, ◌∙◌, subst as transport, arith, Option, Some, Ok, Err, option_map}
use Rattle.std.specs.Prelude.{slice_get}
use Rattle.std.specs.List.{flat_map}
use Rattle.std.proofs.lemmas.List.{length-map, take_more, take_all, map_push, take-append-le}
use Rattle.std.proofs.lemmas.Option.{slice_get-map, slice_get_read, slice_get_within, get_or_from_slice_get}
use Rattle.lar_bytes.specs.declared.memory.OrMemory.{OrMemory}
use Rattle.lar_bytes.specs.declared.memory.OrMemory.TheVariants.{Refused, Memory}
use Rattle.type_table.specs.declared.row.Row.{Row}
use Rattle.type_table.specs.TypeOf.{TypeOf}
use Rattle.type_table.specs.Rows.{type_at, Keeps}
use Rattle.type_table.specs.Substitution.{subst}
use Rattle.type_table.proofs.Grown.{keeps_all, keeps_trans}
use Rattle.lar_typed.specs.Calls.{CallOf}
use Rattle.lar_typed.specs.Trees.{PlainTree}
use Rattle.lar_typed.specs.TreeView.{Contents, contents, plain}
use Rattle.mono_items.specs.declared.items.Instance.{Instance}
use Rattle.mono_bodies.specs.declared.calls.PatternCall.{PatternCall}
use Rattle.mono_graph.specs.declared.refused.RefusedCall.{RefusedCall}
use Rattle.mono_graph.specs.Instances.{PlainInstance, instance_view, target, calls_of, roots}
use Rattle.mono_graph.specs.Reading.{read_call, after, IsRefused}
use Rattle.mono_graph.proofs.Read.{before, before_more, call_at, after_read, get_before, read_extends, Extends, extends_itself, extends_twice}
use Rattle.mono_collect.specs.Arguments.{call_by}
use Rattle.mono_collect.specs.States.{views, AreInside, CallRead, CallEnds, ReadBefore, ArePatterns, RowRead, RowEnds}
use Rattle.mono_collect.proofs.Itemised.{all_at}

-- places of what is found stay
pub row_kept : (us ws : List PlainInstance) (row : List ℕ) (cs : List (CallOf TypeOf)) → Extends us ws → map (slice_get us) row ≡ map (λ c. Some (target c)) cs → map (slice_get ws) row ≡ map (λ c. Some (target c)) cs
row_kept us ws [] [] x e = refl
row_kept us ws [] (c ∷ cs) x e = cc
row_kept us ws (p ∷ row) [] x e = cc
row_kept us ws (p ∷ row) (c ∷ cs) x e =
    let first : slice_get us p ≡ Some (target c) = cc in
    let others : map (slice_get us) row ≡ map (λ c. Some (target c)) cs = cc in
    let now : slice_get ws p ≡ Some (target c) = ap (λ (vs : List PlainInstance). slice_get vs p) x.is ∙ get_before us x.more p (target c) first in
    let rest : map (slice_get ws) row ≡ map (λ c. Some (target c)) cs = row_kept us ws row cs x others in
    cc

call_same : (old new : List Row) (arguments : ℕ) (c : PatternCall) → Keeps old new → arguments < length old → c.generics < length old → call_by new arguments c ≡ call_by old arguments c
call_same old new arguments c k p q =
    let e : subst (type_at new arguments) (type_at new c.generics) ≡ subst (type_at old arguments) (type_at old c.generics) = ap (λ (a : TypeOf). subst a (type_at new c.generics)) (k.same arguments p) ∙ ap (subst (type_at old arguments)) (k.same c.generics q) in
    ap (λ (t : TypeOf). let x : CallOf TypeOf = record { callee = c.callee; generics = t; at = c.at } in x) e

-- the calls before number j are read
pub record Taking (start cur : Contents) (limit member : ℕ) (x : Instance) (calls : List PatternCall) (first us : List Instance) (j : ℕ) (row : List ℕ) : Type 0 where
  pub kept : Keeps start.rows cur.rows
  pub rest : cur ≡ contents cur.rows start.structs start.consts start.functions
  pub program : plain cur ≡ plain start
  pub few : length us ≤ limit
  pub inside : AreInside cur us
  pub read : after (calls_of (plain start)) limit (roots (plain start)) (before (calls_of (plain start)) member (views start.rows first) + j) ≡ Ok (views cur.rows us)
  pub extends : Extends (views start.rows first) (views cur.rows us)
  pub at : map (slice_get (views cur.rows us)) row ≡ map (λ c. Some (target c)) (map (call_by start.rows x.arguments) (take j calls))

module _ (start : Contents) (limit member : ℕ) (x : Instance) (calls : List PatternCall) (first : List Instance) (there : slice_get first member ≡ Some x) (patterns : ArePatterns start x calls) (begun : ReadBefore start limit member first) where
  pub taking_none : Taking start start limit member x calls first first 0 []
  taking_none = record {
    kept = keeps_all start.rows;
    rest = refl;
    program = refl;
    few = begun.few;
    inside = begun.inside;
    read = (let n : before (calls_of (plain start)) member (views start.rows first) + 0 ≡ before (calls_of (plain start)) member (views start.rows first) = omega arith in ap (λ (m : ℕ). after (calls_of (plain start)) limit (roots (plain start)) m) n ∙ begun.read);
    extends = extends_itself (views start.rows first);
    at = refl;
  }

  u : PlainInstance
  u = instance_view start.rows x

  room : member < length first
  room = slice_get_within first member x there

  pub arguments_there : x.arguments < length start.rows
  arguments_there = transport (λ (y : Instance). y.arguments < length start.rows) (get_or_from_slice_get first member x x there) (all_at (λ (y : Instance). y.arguments < length start.rows) first member x (begun.inside).arguments room)

  module _ (cur : Contents) (us : List Instance) (j : ℕ) (row : List ℕ) (t : Taking start cur limit member x calls first us j row) where
    member_at : slice_get (views cur.rows us) member ≡ Some u
    unfolding u
    member_at = ap (λ (vs : List PlainInstance). slice_get vs member) (t.extends).is ∙ get_before (views start.rows first) (t.extends).more member u (slice_get-map (instance_view start.rows) first member ∙ ap (λ (o : Option Instance). option_map (instance_view start.rows) o) there)

    count_same : before (calls_of (plain start)) member (views cur.rows us) ≡ before (calls_of (plain start)) member (views start.rows first)
    count_same =
        let len : length (views start.rows first) ≡ length first = length-map first (instance_view start.rows) in
        let le : member ≤ length (views start.rows first) = omega (arith, room) in
        ap (λ (vs : List PlainInstance). length (flat_map (calls_of (plain start)) (take member vs))) (t.extends).is ∙ ap (λ (vs : List PlainInstance). length (flat_map (calls_of (plain start)) vs)) (take-append-le member (views start.rows first) (t.extends).more le)

    module _ (call : PatternCall) (next : j < length calls) (is : call ≡ get_or calls j call) where
      pub pattern_there : call.generics < length cur.rows
      pattern_there = let a : call.generics < length start.rows = transport (λ (c : PatternCall). c.generics < length start.rows) (sym is) (all_at (λ (c : PatternCall). c.generics < length start.rows) calls j call patterns.generics next) in let b : length start.rows ≤ length cur.rows = (t.kept).longer in omega arith

      pub callee_there : call.callee < length cur.functions
      callee_there = transport (λ (c : Contents). call.callee < length c.functions) (sym t.rest) (transport (λ (c : PatternCall). c.callee < length start.functions) (sym is) (all_at (λ (c : PatternCall). c.callee < length start.functions) calls j call patterns.callees next))

      own : slice_get (calls_of (plain start) u) j ≡ Some (call_by start.rows x.arguments call)
      unfolding u
      own = ap (λ (cs : List (CallOf TypeOf)). slice_get cs j) patterns.are ∙ slice_get-map (call_by start.rows x.arguments) calls j ∙ ap (λ (o : Option PatternCall). option_map (call_by start.rows x.arguments) o) (slice_get_read calls (length calls) j call refl next is)

      now_same : call_by cur.rows x.arguments call ≡ call_by start.rows x.arguments call
      now_same = call_same start.rows cur.rows x.arguments call t.kept arguments_there (transport (λ (c : PatternCall). c.generics < length start.rows) (sym is) (all_at (λ (c : PatternCall). c.generics < length start.rows) calls j call patterns.generics next))

      -- to read one more call is to read this one
      reads : after (calls_of (plain start)) limit (roots (plain start)) (before (calls_of (plain start)) member (views start.rows first) + (j + 1)) ≡ read_call limit (views cur.rows us) (call_by cur.rows x.arguments call)
      reads =
          let n : before (calls_of (plain start)) member (views start.rows first) + (j + 1) ≡ suc (before (calls_of (plain start)) member (views start.rows first) + j) = omega arith in
          let at : slice_get (flat_map (calls_of (plain start)) (views cur.rows us)) (before (calls_of (plain start)) member (views start.rows first) + j) ≡ Some (call_by start.rows x.arguments call) = ap (λ (m : ℕ). slice_get (flat_map (calls_of (plain start)) (views cur.rows us)) (m + j)) (sym count_same) ∙ call_at (calls_of (plain start)) (views cur.rows us) member j u (call_by start.rows x.arguments call) member_at own in
          ap (λ (m : ℕ). after (calls_of (plain start)) limit (roots (plain start)) m) n
          ∙ after_read (calls_of (plain start)) limit (roots (plain start)) (before (calls_of (plain start)) member (views start.rows first) + j) (views cur.rows us) (call_by start.rows x.arguments call) t.read at
          ∙ ap (λ (c : CallOf TypeOf). read_call limit (views cur.rows us) c) (sym now_same)

      pub taking_more : (new : Contents) (ws : List Instance) (p : ℕ) (now : List ℕ) → Keeps cur.rows new.rows → new ≡ contents new.rows cur.structs cur.consts cur.functions → plain new ≡ plain cur → CallRead cur new limit us ws (call_by cur.rows x.arguments call) p → now ≡ row ++ p ∷ [] → Taking start new limit member x calls first ws (j + 1) now
      taking_more new ws p now keeps same program got push =
          let more : Extends (views cur.rows us) (views new.rows ws) = read_extends limit (views cur.rows us) (views new.rows ws) (call_by cur.rows x.arguments call) got.read in
          let name : Some (target (call_by cur.rows x.arguments call)) ≡ Some (target (call_by start.rows x.arguments call)) = ap (λ (c : CallOf TypeOf). Some (target c)) now_same in
          let old : map (slice_get (views new.rows ws)) row ≡ map (λ c. Some (target c)) (map (call_by start.rows x.arguments) (take j calls)) = row_kept (views cur.rows us) (views new.rows ws) row (map (call_by start.rows x.arguments) (take j calls)) more t.at in
          record {
            kept = keeps_trans start.rows cur.rows new.rows t.kept keeps;
            rest = same ∙ ap (λ (c : Contents). contents new.rows c.structs c.consts c.functions) t.rest;
            program = program ∙ t.program;
            few = got.few;
            inside = got.inside;
            read = reads ∙ got.read;
            extends = extends_twice (views start.rows first) (views cur.rows us) (views new.rows ws) t.extends more;
            at = ap (map (slice_get (views new.rows ws))) push ∙ map_push (slice_get (views new.rows ws)) row p ∙ ap (λ (os : List (Option PlainInstance)). os ++ slice_get (views new.rows ws) p ∷ []) old
                ∙ ap (λ (o : Option PlainInstance). map (λ c. Some (target c)) (map (call_by start.rows x.arguments) (take j calls)) ++ o ∷ []) (got.at ∙ name)
                ∙ sym (ap (λ (cs : List PatternCall). map (λ c. Some (target c)) (map (call_by start.rows x.arguments) cs)) (take_more calls j call next ∙ ap (λ (c : PatternCall). take j calls ++ c ∷ []) (sym is)) ∙ ap (map (λ c. Some (target c))) (map_push (call_by start.rows x.arguments) (take j calls) call) ∙ map_push (λ c. Some (target c)) (map (call_by start.rows x.arguments) (take j calls)) (call_by start.rows x.arguments call));
          }

      pub taking_stops : (e : RefusedCall) → read_call limit (views cur.rows us) (call_by cur.rows x.arguments call) ≡ Err e → IsRefused (calls_of (plain start)) limit (roots (plain start)) e
      taking_stops e h = record { count = before (calls_of (plain start)) member (views start.rows first) + (j + 1); stops = reads ∙ h }

      pub row_stops : (new : Contents) (ws : List Instance) (r : OrMemory RefusedCall) → CallEnds cur new limit us ws (call_by cur.rows x.arguments call) (Err r) → RowEnds start new limit member x first ws (Err r)
      row_stops new ws (Refused e) h = taking_stops e h
      row_stops new ws Memory h = tt

    pub taking_all : length calls ≤ j → j ≤ length calls → RowRead start cur limit member x first us row
    unfolding u
    taking_all over within =
        let all : take j calls ≡ calls = take_all j calls over in
        let own : map (call_by start.rows x.arguments) (take j calls) ≡ calls_of (plain start) (instance_view start.rows x) = ap (map (call_by start.rows x.arguments)) all ∙ sym patterns.are in
        let n : length (calls_of (plain start) (instance_view start.rows x)) ≡ length calls = ap length patterns.are ∙ length-map calls (call_by start.rows x.arguments) in
        let more : before (calls_of (plain start)) (member + 1) (views cur.rows us) ≡ before (calls_of (plain start)) member (views cur.rows us) + length (calls_of (plain start) (instance_view start.rows x)) = before_more (calls_of (plain start)) (views cur.rows us) member (instance_view start.rows x) member_at in
        let total : before (calls_of (plain start)) (member + 1) (views cur.rows us) ≡ before (calls_of (plain start)) member (views start.rows first) + j = omega (arith, count_same) in
        record {
          read = record { few = t.few; inside = t.inside; read = transport (λ (p : PlainTree). after (calls_of p) limit (roots p) (before (calls_of p) (member + 1) (views cur.rows us)) ≡ Ok (views cur.rows us)) (sym t.program) (ap (λ (m : ℕ). after (calls_of (plain start)) limit (roots (plain start)) m) total ∙ t.read) };
          extends = t.extends;
          at = t.at ∙ ap (map (λ c. Some (target c))) own;
        }
