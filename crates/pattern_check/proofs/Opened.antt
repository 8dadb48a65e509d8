-- What is given for a part, and for sequences, field by field.
use Rattle.std.proofs.Common.{◌≡◌, List, map, ap, sym}
use Rattle.graph_ast.specs.declared.query.PartTree.{PartTree, out-PartTree}
use Rattle.graph_ast.specs.declared.query.Union.{Union, out-Union}
use Rattle.graph_ast.specs.declared.query.Factor.TheFolds.{fold_out-PartTree, fold_out-Union}
use Rattle.graph_ast.specs.Patterns.{Giving, Part, Body, body_given, part_given, sequence_given, factor_step, part_step, sequence_step, body_step}

pub body_inside : {A : Type 0} (giving : Giving A) (part : PartTree) → body_given giving (out-PartTree part).body ≡ (part_given giving part).body
body_inside {A} giving part =
    sym (ap (λ (p : Part A). p.body) (fold_out-PartTree A (Part A) (List A) (Body A) (factor_step giving) part_step sequence_step body_step part))

pub joints_inside : {A : Type 0} (giving : Giving A) (union : Union) → (out-Union union).joints ≡ (body_given giving union).joints
joints_inside {A} giving union =
    sym (ap (λ (b : Body A). b.joints) (fold_out-Union A (Part A) (List A) (Body A) (factor_step giving) part_step sequence_step body_step union))

pub condition_inside : {A : Type 0} (giving : Giving A) (part : PartTree) → (out-PartTree part).condition ≡ (part_given giving part).condition
condition_inside {A} giving part =
    sym (ap (λ (p : Part A). p.condition) (fold_out-PartTree A (Part A) (List A) (Body A) (factor_step giving) part_step sequence_step body_step part))

pub sequences_inside : {A : Type 0} (giving : Giving A) (union : Union) → map (sequence_given giving) (out-Union union).operands ≡ (body_given giving union).operands
sequences_inside {A} giving union =
    sym (ap (λ (b : Body A). b.operands) (fold_out-Union A (Part A) (List A) (Body A) (factor_step giving) part_step sequence_step body_step union))
