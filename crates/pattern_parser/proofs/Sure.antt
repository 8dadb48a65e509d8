-- The next token always decides how to go on in a query text.
use Rattle.std.proofs.Common.{◌≡◌, refl, true}
use Rattle.token_grammar.specs.Checks.{is_decided, is_counted, has_phrase}
use Rattle.token_reading.specs.Tokens.{class_count}
use Rattle.condition_grammar.specs.Conditions as g
use Rattle.condition_grammar.specs.Conditions.{Inside}
use Rattle.pattern_parser.specs.Insides.{Own}
use Rattle.pattern_parser.specs.Patterns.{label_primary, label_not, label_and, label_union, mode, noun, mode_part, bounds, quantifier, edge_end, wave_end, left_edge, edge}
use Rattle.pattern_parser.specs.Patterns.{part_or_vertex, factor, sequence, joint, union, mode_and_noun, kind_of_any, all_prefix, any_prefix, shortest_prefix, prefix, path}
use Rattle.pattern_parser.specs.Tests.{end_of_edge, relation, after_name, after_group_word, unnamed_operand, test_from, more_members}
use Rattle.pattern_parser.specs.Queries.{where_part, label_part, filler, part, count_gather, leaf_gather, counted, property, alias, item_rest, after_word, first_member, item}
use Rattle.pattern_parser.specs.Queries.{table, query_end, query, inside}
use Rattle.pattern_parser.specs.Outcomes.{opens, closes}

pub sure : is_decided class_count inside query ≡ true
unfolding g.literals g.coalesce g.parens g.comparison g.truth_word g.truth_test g.operand g.comparing g.including g.predicate_tail g.after_is g.test_tail g.tests g.negation
    g.conjunction g.search_condition label_primary label_not label_and label_union mode noun mode_part bounds quantifier edge_end wave_end left_edge edge part_or_vertex factor
    sequence joint union mode_and_noun kind_of_any all_prefix any_prefix shortest_prefix prefix path g.date_text g.dotted g.leaf_or_date end_of_edge relation after_name
    after_group_word unnamed_operand test_from more_members where_part label_part filler part count_gather leaf_gather counted property alias item_rest after_word first_member
    item table query_end query
sure = refl

pub sums : is_counted class_count inside opens closes query ≡ true
unfolding g.literals g.coalesce g.parens g.comparison g.truth_word g.truth_test g.operand g.comparing g.including g.predicate_tail g.after_is g.test_tail g.tests g.negation
    g.conjunction g.search_condition label_primary label_not label_and label_union mode noun mode_part bounds quantifier edge_end wave_end left_edge edge part_or_vertex factor
    sequence joint union mode_and_noun kind_of_any all_prefix any_prefix shortest_prefix prefix path g.date_text g.dotted g.leaf_or_date end_of_edge relation after_name
    after_group_word unnamed_operand test_from more_members where_part label_part filler part count_gather leaf_gather counted property alias item_rest after_word first_member
    item table query_end query
sums = refl

pub decided : (k : Inside Own) → is_decided class_count inside (inside k) ≡ true
unfolding g.literals g.coalesce g.parens g.comparison g.truth_word g.truth_test g.operand g.comparing g.including g.predicate_tail g.after_is g.test_tail g.tests g.negation
    g.conjunction g.search_condition label_primary label_not label_and label_union mode noun mode_part bounds quantifier edge_end wave_end left_edge edge part_or_vertex factor
    sequence joint union mode_and_noun kind_of_any all_prefix any_prefix shortest_prefix prefix path g.date_text g.dotted g.leaf_or_date end_of_edge relation after_name
    after_group_word unnamed_operand test_from more_members where_part label_part filler part count_gather leaf_gather counted property alias item_rest after_word first_member
    item table query_end query
decided Inside.condition = refl
decided Inside.operands = refl
decided Inside.members = refl
decided (Inside.own Own.filler) = refl
decided (Inside.own Own.part) = refl
decided (Inside.own Own.label_group) = refl
decided (Inside.own Own.variables) = refl
decided (Inside.own Own.counted) = refl
decided (Inside.own Own.property) = refl
decided (Inside.own Own.items) = refl
decided (Inside.own Own.table) = refl

pub counted_all : (k : Inside Own) → is_counted class_count inside opens closes (inside k) ≡ true
unfolding g.literals g.coalesce g.parens g.comparison g.truth_word g.truth_test g.operand g.comparing g.including g.predicate_tail g.after_is g.test_tail g.tests g.negation
    g.conjunction g.search_condition label_primary label_not label_and label_union mode noun mode_part bounds quantifier edge_end wave_end left_edge edge part_or_vertex factor
    sequence joint union mode_and_noun kind_of_any all_prefix any_prefix shortest_prefix prefix path g.date_text g.dotted g.leaf_or_date end_of_edge relation after_name
    after_group_word unnamed_operand test_from more_members where_part label_part filler part count_gather leaf_gather counted property alias item_rest after_word first_member
    item table query_end query
counted_all Inside.condition = refl
counted_all Inside.operands = refl
counted_all Inside.members = refl
counted_all (Inside.own Own.filler) = refl
counted_all (Inside.own Own.part) = refl
counted_all (Inside.own Own.label_group) = refl
counted_all (Inside.own Own.variables) = refl
counted_all (Inside.own Own.counted) = refl
counted_all (Inside.own Own.property) = refl
counted_all (Inside.own Own.items) = refl
counted_all (Inside.own Own.table) = refl

pub has : (k : Inside Own) → has_phrase class_count inside 3 k ≡ true
unfolding g.literals g.coalesce g.parens g.comparison g.truth_word g.truth_test g.operand g.comparing g.including g.predicate_tail g.after_is g.test_tail g.tests g.negation
    g.conjunction g.search_condition label_primary label_not label_and label_union mode noun mode_part bounds quantifier edge_end wave_end left_edge edge part_or_vertex factor
    sequence joint union mode_and_noun kind_of_any all_prefix any_prefix shortest_prefix prefix path g.date_text g.dotted g.leaf_or_date end_of_edge relation after_name
    after_group_word unnamed_operand test_from more_members where_part label_part filler part count_gather leaf_gather counted property alias item_rest after_word first_member
    item table query_end query
has Inside.condition = refl
has Inside.operands = refl
has Inside.members = refl
has (Inside.own Own.filler) = refl
has (Inside.own Own.part) = refl
has (Inside.own Own.label_group) = refl
has (Inside.own Own.variables) = refl
has (Inside.own Own.counted) = refl
has (Inside.own Own.property) = refl
has (Inside.own Own.items) = refl
has (Inside.own Own.table) = refl
