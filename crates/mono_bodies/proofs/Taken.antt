-- A call is taken before the calls in its arguments.
use Rattle.std.proofs.Common.{◌≡◌, ℕ, List, [], ◌∷◌, ◌++◌, map, refl, sym, ap, ◌∙◌, append_assoc}
use Rattle.lar_typed.specs.declared.expr.TypedExpr.{TypedExpr}
use Rattle.lar_typed.specs.declared.expr.TypedCall.{TypedCall, out-TypedCall}
use Rattle.lar_typed.specs.declared.expr.Node.TheVariants as node
use Rattle.lar_typed.specs.ExprView.{expr_view, exprs_view}
use Rattle.lar_typed.specs.Calls.{CallOf, expr_calls, exprs_calls}
use Rattle.lar_typed.proofs.ExprEquations.{at_call, call_is}
use Rattle.mono_bodies.specs.declared.calls.PatternCall.{PatternCall}
use Rattle.mono_bodies.specs.Patterns.{call_view}

map_push : (old : List PatternCall) (p : PatternCall) → map call_view (old ++ p ∷ []) ≡ map call_view old ++ call_view p ∷ []
map_push [] p = refl
map_push (q ∷ old) p = ap (λ (cs : List (CallOf ℕ)). call_view q ∷ cs) (map_push old p)

pub taken : (e : TypedExpr) (x : TypedCall) (old pushed now : List PatternCall) (args : List TypedExpr) → e.node ≡ node.Call x → pushed ≡ old ++ record { callee = (out-TypedCall x).callee; generics = (out-TypedCall x).generics; at = (out-TypedCall x).at } ∷ [] → args ≡ (out-TypedCall x).args → map call_view now ≡ map call_view pushed ++ exprs_calls (exprs_view args) → map call_view now ≡ map call_view old ++ expr_calls (expr_view e)
taken e x old pushed now args is put same rest =
    rest
    ∙ ap (λ (ps : List PatternCall). map call_view ps ++ exprs_calls (exprs_view args)) put
    ∙ ap (λ (xs : List TypedExpr). map call_view (old ++ record { callee = (out-TypedCall x).callee; generics = (out-TypedCall x).generics; at = (out-TypedCall x).at } ∷ []) ++ exprs_calls (exprs_view xs)) same
    ∙ ap (λ (cs : List (CallOf ℕ)). cs ++ exprs_calls (exprs_view (out-TypedCall x).args)) (map_push old (record { callee = (out-TypedCall x).callee; generics = (out-TypedCall x).generics; at = (out-TypedCall x).at }))
    ∙ append_assoc (map call_view old) (record { callee = (out-TypedCall x).callee; generics = (out-TypedCall x).generics; at = (out-TypedCall x).at } ∷ []) (exprs_calls (exprs_view (out-TypedCall x).args))
    ∙ sym (ap (λ t. map call_view old ++ expr_calls t) (at_call e x is ∙ call_is x e.of))
