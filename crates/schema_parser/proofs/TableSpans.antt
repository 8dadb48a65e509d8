-- The spans of a CREATE TABLE statement lie in the text.
use Rattle.std.proofs.Common.{ℕ, Option, Some, None, List, [], ◌∷◌, ◌++◌, zero, suc}
use Rattle.std.specs.List.{AllByRecursion}
use Rattle.pgq_base.specs.declared.refusal.Span.{Span}
use Rattle.graph_ast.specs.declared.schema.Named.{Named}
use Rattle.graph_ast.specs.Spans.{LiesIn, NameHas, NamesHave, RuleHas, ColumnHas, TableHas}
use Rattle.token_grammar.specs.Rules.{within}
use Rattle.token_marks.specs.declared.mark.Mark.{Mark}
use Rattle.token_marks.specs.declared.mark.Mark.TheVariants as m
use Rattle.schema_parser.specs.declared.references.Target.{Target}
use Rattle.schema_parser.specs.declared.tables.TableItem.{TableItem}
use Rattle.schema_parser.specs.declared.tables.TableItem.TheVariants as item
use Rattle.schema_parser.specs.Tables.{Inside, Held, AtColumn, the, parens, name, columns, listed, reference, column_rule_kind, column_rule, column_rules, rules_at, column}
use Rattle.schema_parser.specs.Tables.{table_rule_kind, table_rule, table_item, table, columns_among, rules_among}
use Rattle.schema_parser.specs.Graphs.{inside}
use Rattle.schema_parser.proofs.OrderedTokens.{EndBy, left_part, right_part}
use Rattle.schema_parser.proofs.Placed.{text_of, IfGiven, Gives, any_gives, one_gives, mapped_gives, seq_gives, either_gives, opt_gives, many_gives, list_gives}
use Rattle.schema_parser.proofs.TypeSpans.{type_lies}

module _ (end : ℕ) where
  abbrev Here : Span → Type 0
  Here = LiesIn end

  parens_at : (k : Inside) (P : Held k → Type 0) → Gives end (inside k) P → (n : ℕ) (d : (text_of n (parens k)).Phrase) → EndBy end ((text_of n (parens k)).tokens d)
      → P ((text_of n (parens k)).value d)
  unfolding within
  parens_at k P g zero d i = absurd d.1.0
  parens_at k P g (suc n) d i =
      let ts = (text_of n (inside k)).tokens d.1.0 in
      g.holds n d.1.0 (left_part end ts (d.1.1.0 ∷ []) (right_part end (d.0.0 ∷ []) (ts ++ d.1.1.0 ∷ []) i))

  pub parens_give : (k : Inside) (P : Held k → Type 0) → Gives end (inside k) P → Gives end (parens k) P
  parens_give k P g = record { holds = parens_at k P g }

  pub the_lies : (mark : Mark) → Gives end (the mark) Here
  the_lies mark = one_gives end (λ t h. h)

  pub name_lies : Gives end name (NameHas Here)
  name_lies = one_gives end (λ t h. h)

  pub columns_lie : Gives end columns (NamesHave Here)
  unfolding columns
  columns_lie = parens_give Inside.name_list (NamesHave Here) (list_gives end name_lies)

  pub listed_lie : (names : Option (List Named)) → IfGiven (NamesHave Here) names → NamesHave Here (listed names)
  listed_lie None h = tt
  listed_lie (Some names) h = h

  abbrev TargetHas : Target → Type 0
  TargetHas t = Here t.word × (Here t.table.span × NamesHave Here t.columns)

  reference_lies : Gives end reference TargetHas
  unfolding reference
  reference_lies = mapped_gives end (seq_gives end (the_lies m.References) (seq_gives end name_lies (seq_gives end (opt_gives end columns_lie) (any_gives end))))
      (λ a h. (h.0, (h.1.0, listed_lie a.1.1.0 h.1.1.0)))

  -- of a column that lies in the text, so does the rule
  abbrev AtColumnHas : AtColumn → Type 0
  AtColumnHas rule = (own : Named) → NameHas Here own → RuleHas Here (rule own)

  column_rule_kind_lies : Gives end column_rule_kind AtColumnHas
  unfolding column_rule_kind
  column_rule_kind_lies =
      either_gives end (mapped_gives end (seq_gives end (the_lies m.Not) (any_gives end)) (λ a h own o. (h.0, tt)))
      (either_gives end (mapped_gives end (seq_gives end (the_lies m.Primary) (any_gives end)) (λ a h own o. (h.0, (o, tt))))
      (either_gives end (mapped_gives end (the_lies m.Unique) (λ a h own o. (h, (o, tt))))
      (either_gives end (mapped_gives end reference_lies (λ a h own o. (h.0, ((o, tt), h.1.0, h.1.1))))
      (either_gives end (mapped_gives end (seq_gives end (the_lies m.Default) (any_gives end)) (λ a h own o. (h.0, tt)))
      (mapped_gives end (seq_gives end (the_lies m.Check) (any_gives end)) (λ a h own o. (h.0, tt)))))))

  column_rule_lies : Gives end column_rule AtColumnHas
  unfolding column_rule
  column_rule_lies = mapped_gives end (seq_gives end (any_gives end) column_rule_kind_lies) (λ a h. h.1)

  rules_lie : (own : Named) → NameHas Here own → (rules : List AtColumn) → AllByRecursion AtColumnHas rules → AllByRecursion (RuleHas Here) (rules_at own rules)
  rules_lie own o [] h = tt
  rules_lie own o (rule ∷ rules) h = (h.0 own o, rules_lie own o rules h.1)

  column_rules_lie : Gives end column_rules (AllByRecursion AtColumnHas)
  unfolding column_rules
  column_rules_lie = many_gives end column_rule_lies

  column_lies : Gives end column (ColumnHas Here)
  unfolding column
  column_lies = mapped_gives end (seq_gives end name_lies (seq_gives end (type_lies end) column_rules_lie))
      (λ a h. record { name = h.0; written = h.1.0; rules = rules_lie a.0 h.0 a.1.1 h.1.1 })

  table_rule_kind_lies : Gives end table_rule_kind (RuleHas Here)
  unfolding table_rule_kind
  table_rule_kind_lies =
      either_gives end (mapped_gives end (seq_gives end (the_lies m.Primary) (seq_gives end (any_gives end) columns_lie)) (λ a h. (h.0, h.1.1)))
      (either_gives end (mapped_gives end (seq_gives end (the_lies m.Unique) columns_lie) (λ a h. (h.0, h.1)))
      (either_gives end (mapped_gives end (seq_gives end (the_lies m.Foreign) (seq_gives end (any_gives end) (seq_gives end columns_lie reference_lies)))
      (λ a h. (h.0, (h.1.1.0, h.1.1.1.1.0, h.1.1.1.1.1))))
      (mapped_gives end (seq_gives end (the_lies m.Check) (any_gives end)) (λ a h. (h.0, tt)))))

  table_rule_lies : Gives end table_rule (RuleHas Here)
  unfolding table_rule
  table_rule_lies = mapped_gives end (seq_gives end (any_gives end) table_rule_kind_lies) (λ a h. h.1)

  abbrev ItemHas : TableItem → Type 0
  ItemHas (item.Column c) = ColumnHas Here c
  ItemHas (item.Rule r) = RuleHas Here r

  table_item_lies : Gives end table_item ItemHas
  unfolding table_item
  table_item_lies = either_gives end (mapped_gives end column_lies (λ a h. h)) (mapped_gives end table_rule_lies (λ a h. h))

  columns_among_lie : (items : List TableItem) → AllByRecursion ItemHas items → AllByRecursion (ColumnHas Here) (columns_among items)
  columns_among_lie [] h = tt
  columns_among_lie (item.Column c ∷ items) h = (h.0, columns_among_lie items h.1)
  columns_among_lie (item.Rule r ∷ items) h = columns_among_lie items h.1

  rules_among_lie : (items : List TableItem) → AllByRecursion ItemHas items → AllByRecursion (RuleHas Here) (rules_among items)
  rules_among_lie [] h = tt
  rules_among_lie (item.Column c ∷ items) h = rules_among_lie items h.1
  rules_among_lie (item.Rule r ∷ items) h = (h.0, rules_among_lie items h.1)

  pub table_lies : Gives end table (TableHas Here)
  unfolding table
  table_lies = mapped_gives end (seq_gives end (any_gives end) (seq_gives end name_lies (parens_give Inside.item_list (AllByRecursion ItemHas) (list_gives end table_item_lies))))
      (λ a h. record { name = h.1.0; columns = columns_among_lie a.1.1 h.1.1; rules = rules_among_lie a.1.1 h.1.1 })
