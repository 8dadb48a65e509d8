-- The texts of the grammar have its shape.
use Rattle.std.proofs.Common.{◌≡◌, refl, sym, ap, subst, ◌∙◌, ℕ, zero, suc, Bool, true, ◌&&◌, Option, Some, None, List, [], ◌∷◌, map}
use Rattle.std.specs.List.{list_all}
use Rattle.pgq_base.specs.declared.refusal.Span.{Span}
use Rattle.sql_lexer.specs.declared.token.Token.{Token}
use Rattle.token_marks.specs.declared.mark.Mark.TheVariants as m
use Rattle.token_grammar.specs.Rules.{within}
use Rattle.token_reading.specs.Tokens.{class}
use Rattle.condition_grammar.specs.Spans.{not_if}
use Rattle.condition_grammar.specs.Conditions.{Inside}
use Rattle.sql_algebra.specs.declared.text.ColumnText.{ColumnText}
use Rattle.sql_algebra.specs.declared.text.ItemText.{ItemText}
use Rattle.sql_algebra.specs.declared.text.ConjunctText.{ConjunctText, ConjunctText-F, fold-roll-ConjunctText}
use Rattle.sql_algebra.specs.declared.text.ConjunctText.TheVariants as t
use Rattle.sql_algebra.specs.declared.text.ConjunctText.TheVariants.{Plain, NotExists}
use Rattle.sql_algebra.specs.declared.text.SelectText.{SelectText, out-SelectText, fold-roll-SelectText}
use Rattle.sql_algebra.specs.declared.text.SqlText.{SqlText}
use Rattle.sql_algebra.specs.Grammar.{Nested, inside, column, table, joined, next_chain, from_list, exists, after_not, conjunct, where_part, unless_none, select, sql}
use Rattle.sql_parser.specs.Outcomes.{SpellsSql}
use Rattle.sql_reader.specs.Shapes.{value_is_shaped, item_is_shaped, conjunct_step, select_step, conjunct_is_shaped, select_is_shaped, HasShape, AreSized}
use Rattle.sql_reader.proofs.Clean.{pair}
use Rattle.sql_reader.proofs.RuleValues.{Parts, Of, Gives, IfGiven, Each, any_gives, mapped_gives, seq_gives, either_gives, opt_gives, many_gives, behind_gives, list_gives}
use Rattle.sql_reader.proofs.RuleValues.{nest_gives}
use Rattle.sql_reader.proofs.ShapedConditions.{Condition, Shaped, SelectShaped, InsideHas, Inner, not_shaped, test_shaped, member_shaped, condition_shaped, operands_shaped}
use Rattle.sql_reader.proofs.ShapedConditions.{members_shaped}

each_true : {V : Type 0} (f : V → Bool) (vs : List V) → Each (λ v. f v ≡ true) vs → list_all f vs ≡ true
each_true f [] h = refl
each_true f (v ∷ vs) h = pair (f v) (list_all f vs) h.0 (each_true f vs h.1)

each_mapped : {V : Type 0} (f : V → Bool) (vs : List V) → Each (λ v. f v ≡ true) vs → list_all (λ b. b) (map f vs) ≡ true
each_mapped f [] h = refl
each_mapped f (v ∷ vs) h = pair (f v) (list_all (λ b. b) (map f vs)) h.0 (each_mapped f vs h.1)

abbrev ColumnShaped : Of ColumnText
ColumnShaped c = value_is_shaped c.value ≡ true

abbrev ItemShaped : Of ItemText
ItemShaped i = item_is_shaped i ≡ true

abbrev ConjunctShaped : Of ConjunctText
ConjunctShaped c = conjunct_is_shaped c ≡ true

plain_shaped : (c : Condition) → Shaped c → ConjunctShaped (Plain c)
plain_shaped c h = ap conjunct_is_shaped (sym (t.rolls-Plain c)) ∙ fold-roll-ConjunctText Bool Bool conjunct_step select_step (ConjunctText-F.Plain c) ∙ h

inner_shaped : (s : SelectText) → SelectShaped s → ConjunctShaped (NotExists s)
inner_shaped s h = ap conjunct_is_shaped (sym (t.rolls-NotExists s)) ∙ fold-roll-ConjunctText Bool Bool conjunct_step select_step (ConjunctText-F.NotExists s) ∙ h

parts_shaped : (s : SelectText) → Each ColumnShaped s.columns → Each ItemShaped s.from → Each ConjunctShaped s.conjuncts → SelectShaped s
parts_shaped s columns items conjuncts =
    fold-roll-SelectText Bool Bool conjunct_step select_step (out-SelectText s)
    ∙ pair (list_all (λ (c : ColumnText). value_is_shaped c.value) s.columns) (list_all item_is_shaped s.from && list_all (λ b. b) (map conjunct_is_shaped s.conjuncts))
    (each_true (λ (c : ColumnText). value_is_shaped c.value) s.columns columns)
    (pair (list_all item_is_shaped s.from) (list_all (λ b. b) (map conjunct_is_shaped s.conjuncts))
    (each_true item_is_shaped s.from items) (each_mapped conjunct_is_shaped s.conjuncts conjuncts))

-- what follows NOT
abbrev BehindNot : Of (Span → ConjunctText)
BehindNot f = (word : Span) → ConjunctShaped (f word)

given_conjuncts : (o : Option (List ConjunctText)) → IfGiven (Each ConjunctShaped) o → Each ConjunctShaped (unless_none o)
given_conjuncts None h = tt
given_conjuncts (Some all) h = h

module _ {b : Parts} (inner : Inner b) where
  column_shaped : Gives b column ColumnShaped
  unfolding column
  column_shaped = mapped_gives (seq_gives (condition_shaped inner) any_gives) (λ d h. h.0)

  table_shaped : Gives b table ItemShaped
  unfolding table
  table_shaped = mapped_gives any_gives (λ d h. refl)

  joined_shaped : Gives b joined ItemShaped
  unfolding joined
  joined_shaped = mapped_gives (seq_gives any_gives (seq_gives any_gives (seq_gives any_gives (list_gives m.And (member_shaped inner)))))
      (λ d h. each_true value_is_shaped d.1.1.1 h.1.1.1)

  next_shaped : Gives b next_chain ItemShaped
  unfolding next_chain
  next_shaped = behind_gives m.Comma table_shaped

  from_shaped : Gives b from_list (Each ItemShaped)
  unfolding from_list
  from_shaped = mapped_gives (seq_gives table_shaped (many_gives (either_gives joined_shaped next_shaped))) (λ d h. h)

  exists_shaped : Gives b exists SelectShaped
  unfolding exists
  exists_shaped = mapped_gives (seq_gives any_gives (nest_gives (Inside.own Nested.inner_select) SelectShaped (inner.told (Inside.own Nested.inner_select)))) (λ d h. h.1)

  after_not_shaped : Gives b after_not BehindNot
  unfolding after_not
  after_not_shaped = either_gives (mapped_gives exists_shaped (λ s h word. inner_shaped s h))
      (mapped_gives (test_shaped inner) (λ c h word. plain_shaped (not_if (Some word) c) (not_shaped (Some word) c h)))

  conjunct_shaped : Gives b conjunct ConjunctShaped
  unfolding conjunct
  conjunct_shaped = either_gives (mapped_gives (seq_gives any_gives after_not_shaped) (λ d h. h.1 d.0)) (mapped_gives (test_shaped inner) plain_shaped)

  where_shaped : Gives b where_part (Each ConjunctShaped)
  unfolding where_part
  where_shaped = mapped_gives (opt_gives (behind_gives m.Where (list_gives m.And conjunct_shaped))) given_conjuncts

  pub select_shaped : Gives b select SelectShaped
  unfolding select
  select_shaped = mapped_gives (seq_gives any_gives (seq_gives (list_gives m.Comma column_shaped) (seq_gives any_gives (seq_gives from_shaped where_shaped))))
      (λ d h. parts_shaped _ h.1.0 h.1.1.1.0 h.1.1.1.1)

  inside_gives : (k : Inside Nested) → Gives b (inside k) (InsideHas k)
  inside_gives Inside.condition = condition_shaped inner
  inside_gives Inside.operands = operands_shaped inner
  inside_gives Inside.members = members_shaped inner
  inside_gives (Inside.own Nested.null_type) = any_gives
  inside_gives (Inside.own Nested.length_part) = any_gives
  inside_gives (Inside.own Nested.inner_select) = select_shaped

-- however many parentheses may be open
level : (n : ℕ) → Inner (within class inside n)
unfolding within
level zero = record { told = λ k d i. absurd d }
level (suc n) = record { told = λ k d i. (inside_gives (level n) k).holds d i }

text_shaped : {b : Parts} → Inner b → Gives b sql HasShape
unfolding sql
text_shaped inner =
    mapped_gives (seq_gives (seq_gives (select_shaped inner) (many_gives (mapped_gives (seq_gives any_gives (seq_gives any_gives (select_shaped inner)))
    (λ d h. h.1.1)))) any_gives) (λ d h.
    each_true select_is_shaped (d.0.0 ∷ d.0.1) h.0)

pub has_shape : (ts : List Token) (s : SqlText) → AreSized ts → SpellsSql ts s → HasShape s
has_shape ts s i (n, d) = subst HasShape d.2 ((text_shaped (level n)).holds d.0 (subst AreSized d.1 i))
