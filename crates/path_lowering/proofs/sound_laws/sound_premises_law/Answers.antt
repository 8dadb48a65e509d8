use Rattle.std.proofs.Common.{sym, ◌∙◌}
use Rattle.path_lowering.proofs.SoundExpansion.{condition_among}
use Rattle.path_lowering.proofs.sound_laws.sound_premises_law.Goals as goal

pub returns-clause-conditions : goal.returns-clause-conditions
returns-clause-conditions c = condition_among

pub returns-clause-class : goal.returns-clause-class
returns-clause-class c = λ catalog graph valid leaf element property there has name class other own other_there other_has other_name.
    valid.property_classes other element own property other_there there other_has has (other_name ∙ sym name) ∙ class
