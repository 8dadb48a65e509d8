use Rattle.view_check.proofs.SpansInText.{fault_lies}
use Rattle.view_check.proofs.laws.fault_lies_in_text.Goals as goal

pub returns : goal.returns
returns c = λ tree length h. fault_lies length tree h
