-- What nests nowhere is read alike at each level, and what is gathered behind what was read first.
use Rattle.std.proofs.Common.{◌≡◌, Err, refl, sym, ap₂, ◌∙◌, ℕ, List, [], ◌∷◌, length}
use Rattle.pgq_base.specs.declared.refusal.Stop.{Stop}
use Rattle.pgq_base.specs.declared.refusal.Stop.TheVariants.{NoMemory, Refused}
use Rattle.sql_lexer.specs.declared.token.Token.{Token}
use Rattle.token_grammar.specs.Rules.Rule.{opt}
use Rattle.token_grammar.specs.declared.fault.Cause.{Cause}
use Rattle.token_grammar.specs.Code.{Parses, gathered, after_p, pushed}
use Rattle.token_grammar.proofs.Loops.{list-first}
use Rattle.token_grammar.proofs.Through.{seq-through_fault}
use Rattle.token_grammar.specs.Parser.{Parser, bind, mapped_p, seq_p}
use Rattle.token_grammar.specs.Parser.Answer.{got}
use Rattle.token_marks.specs.declared.mark.Mark.TheVariants as m
use Rattle.token_reading.specs.Tokens.{is_mark, span_of}
use Rattle.pattern_parser.specs.Patterns.{all_prefix, any_prefix, shortest_prefix, kind_of_any, mode_and_noun, prefix, mode, noun, mode_part, bounds, quantifier}
use Rattle.pattern_parser.specs.Reading.{reads, reads_list, at_depth, flat}

pub mode_level : (n : ℕ) (ts : List Token) → reads (at_depth n) mode_part ts ≡ reads flat mode_part ts
unfolding mode noun mode_part
mode_level n ts = refl

pub quantifier_level : (n : ℕ) (ts : List Token) → reads (at_depth n) (opt quantifier) ts ≡ reads flat (opt quantifier) ts
unfolding bounds quantifier
quantifier_level n ts = refl

pub prefix_level : (n : ℕ) (ts : List Token) → reads (at_depth n) (opt prefix) ts ≡ reads flat (opt prefix) ts
unfolding all_prefix any_prefix shortest_prefix kind_of_any mode_and_noun prefix mode noun mode_part
prefix_level n ts = refl

-- where what comes first is read, and the loop behind it fails
module _ {A B C D : Type 0} (P : Parser Token A) (Q : Parser Token B) (h : A × B → C) (a : A) (g : B → D) (H : D → C)
    (made : (b : B) → h (let p : A × B = (a, b) in p) ≡ H (g b)) where
  pub through_halt : (ts r l : List Token) → P ts ≡ got a r → (e : Stop Cause) → Parses (bind (Q r) (λ v l. got (g v) l)) (Err e) l → Parses (mapped_p h (seq_p P Q) ts) (Err e) l
  through_halt ts r l first (Refused c) f = seq-through_fault P Q h a g H made ts r l c first f
  through_halt ts r l first NoMemory f = tt

-- a list, from its first item on
pub list_start : {A : Type 0} (P : Parser Token A) (ts r : List Token) (a : A) (n : ℕ) (s : List A) → P ts ≡ got a r → n ≡ length r → s ≡ a ∷ [] →
    gathered (is_mark m.Comma) (after_p (is_mark m.Comma) span_of P) pushed n s r ≡ reads_list P ts
list_start P ts r a n s e h k = ap₂ (λ i l. gathered (is_mark m.Comma) (after_p (is_mark m.Comma) span_of P) pushed i l r) h k
    ∙ sym (list-first (is_mark m.Comma) span_of P ts a r e)
