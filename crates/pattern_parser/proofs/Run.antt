-- What loops gather, as a whole.
use Rattle.std.proofs.Common.{◌≡◌, refl, sym, ap, ap₂, ◌∙◌, append-nil, append_assoc, ℕ, List, [], ◌∷◌, ◌++◌, map}
use Rattle.pgq_base.specs.declared.refusal.Span.{Span}
use Rattle.graph_ast.specs.declared.query.Factor.{Factor}
use Rattle.graph_ast.specs.declared.query.Sequence.{Sequence}
use Rattle.graph_ast.specs.declared.query.Joint.{Joint}
use Rattle.graph_ast.specs.declared.query.Union.{Union, roll-Union}
use Rattle.token_grammar.specs.Code.{folded}
use Rattle.pattern_parser.specs.declared.pieces.Placed.{Placed}
use Rattle.pattern_parser.specs.declared.pieces.Run.{Run}
use Rattle.pattern_parser.specs.declared.pieces.Operands.{Operands}
use Rattle.pattern_parser.specs.Patterns.{placed, node_of, last_place, reach_over, sequence_of, Joined, joint_in, operand_in, sequence_in, union_of}
use Rattle.pattern_parser.specs.Reading.{with_factor, with_operand}

abbrev span_to : ℕ → ℕ → Span
span_to from to = record { from = from; to = to }

abbrev run_of : List Factor → ℕ → ℕ → Run
run_of factors from to = record { factors = factors; span = span_to from to }

same_run : (a b : List Factor) (from s t : ℕ) → a ≡ b → s ≡ t → run_of a from s ≡ run_of b from t
same_run a b from s t e h = ap₂ (λ l n. run_of l from n) e h

folded-factors : (factors : List Factor) (from to : ℕ) (x : Placed Factor) (more : List (Placed Factor)) → to ≡ x.span.to →
    run_of (factors ++ map node_of more) from (last_place x more).to ≡ folded with_factor (run_of factors from to) more
folded-factors factors from to x [] h = same_run (factors ++ []) factors from x.span.to to (append-nil factors) (sym h)
folded-factors factors from to x (y ∷ more) h =
    same_run (factors ++ y.node ∷ map node_of more) ((factors ++ y.node ∷ []) ++ map node_of more) from (last_place y more).to (last_place y more).to
    (sym (append_assoc factors (y.node ∷ []) (map node_of more))) refl
    ∙ folded-factors (factors ++ y.node ∷ []) from y.span.to y more refl

abbrev pub first_run : Placed Factor → Run
first_run x = record { factors = x.node ∷ []; span = x.span }

abbrev pub sequence_from : Run → Placed Sequence
sequence_from run = placed (sequence_of run.factors) run.span

abbrev pub sequence_value : Placed Factor × List (Placed Factor) → Placed Sequence
sequence_value d = placed (sequence_of (d.0.node ∷ map node_of d.1)) (reach_over d.0 d.1)

pub sequence_made : (x : Placed Factor) (more : List (Placed Factor)) → sequence_value (let p : Placed Factor × List (Placed Factor) = (x, more) in p) ≡ sequence_from
    (folded with_factor (first_run x) more)
sequence_made x more = ap sequence_from (folded-factors (x.node ∷ []) x.span.from x.span.to x more refl)

abbrev operands_of : List Sequence → List Joint → ℕ → ℕ → Operands
operands_of ss js from to = record { operands = ss; joints = js; span = span_to from to }

same_operands : (a b : List Sequence) (c d : List Joint) (from s t : ℕ) → a ≡ b → c ≡ d → s ≡ t → operands_of a c from s ≡ operands_of b d from t
same_operands a b c d from s t e f h = ap₂ (λ l k. operands_of l k from s) e f ∙ ap (λ n. operands_of b d from n) h

folded-operands : (ss : List Sequence) (js : List Joint) (from to : ℕ) (x : Placed Sequence) (more : List Joined) → to ≡ x.span.to →
    operands_of (ss ++ map sequence_in more) (js ++ map joint_in more) from (last_place x (map operand_in more)).to ≡ folded with_operand (operands_of ss js from to) more
folded-operands ss js from to x [] h = same_operands (ss ++ []) ss (js ++ []) js from x.span.to to (append-nil ss) (append-nil js) (sym h)
folded-operands ss js from to x (y ∷ more) h =
    same_operands (ss ++ y.1.node ∷ map sequence_in more) ((ss ++ y.1.node ∷ []) ++ map sequence_in more) (js ++ y.0 ∷ map joint_in more)
    ((js ++ y.0 ∷ []) ++ map joint_in more) from
    (last_place y.1 (map operand_in more)).to (last_place y.1 (map operand_in more)).to (sym (append_assoc ss (y.1.node ∷ []) (map sequence_in more)))
    (sym (append_assoc js (y.0 ∷ []) (map joint_in more))) refl
    ∙ folded-operands (ss ++ y.1.node ∷ []) (js ++ y.0 ∷ []) from y.1.span.to y.1 more refl

abbrev pub first_operand : Placed Sequence → Operands
first_operand x = record { operands = x.node ∷ []; joints = []; span = x.span }

abbrev pub union_from : Operands → Placed Union
union_from all = placed (roll-Union (record { operands = all.operands; joints = all.joints })) all.span

abbrev pub union_value : Placed Sequence × List Joined → Placed Union
union_value d = placed (union_of d.0.node d.1) (reach_over d.0 (map operand_in d.1))

pub union_made : (x : Placed Sequence) (more : List Joined) → union_value (let p : Placed Sequence × List Joined = (x, more) in p) ≡ union_from
    (folded with_operand (first_operand x) more)
union_made x more = ap union_from (folded-operands (x.node ∷ []) [] x.span.from x.span.to x more refl)
