-- The faults at the conditions of a part.
use Rattle.std.proofs.Common.{◌≡◌, ap, sym, ◌∙◌, List, Option, option_to_list}
use Rattle.std.specs.List.{flat_map}
use Rattle.graph_ast.specs.declared.query.Condition.{Condition}
use Rattle.first_faults.specs.declared.faults.Fault.{Fault}
use Rattle.first_faults.specs.Faults.{first_of}
use Rattle.graph_ast.specs.Patterns.{Body, Part}
use Rattle.pattern_check.specs.Scopes.{body_conditions, part_conditions}
use Rattle.pattern_check.proofs.PatternSteps.{apart}

-- a part's conditions are those inside and then its own
pub part_apart : (w : Condition → List Fault) (first found : Option Fault) (part : Part (List Condition)) (body : Body (List Condition)) (own : Option Condition) →
    found ≡ first_of first (flat_map w (body_conditions body)) → body ≡ part.body → own ≡ part.condition →
    first_of found (flat_map w (option_to_list own)) ≡ first_of first (flat_map w (part_conditions part))
part_apart w first found part body own f b o =
    ap (λ x. first_of x (flat_map w (option_to_list own))) (f ∙ ap (λ (y : Body (List Condition)). first_of first (flat_map w (body_conditions y))) b)
    ∙ ap (λ x. first_of (first_of first (flat_map w (body_conditions part.body))) (flat_map w (option_to_list x))) o
    ∙ sym (apart w first (body_conditions part.body) (option_to_list part.condition))
