-- Readings whose answers are known.
use Rattle.std.proofs.Common.{◌≡◌, ℕ, Result, Ok, Err, refl, [], not}
use Rattle.std.specs.Prelude.{codes, ◌==◌, ◌||◌}
use Rattle.pol_pattern.specs.declared.version.Version.TheVariants.{One}
use Rattle.pol_pattern.specs.declared.fault.PatternFault.{PatternFault}
use Rattle.pol_pattern.specs.declared.fault.PatternFault.TheVariants as faults
use Rattle.pol_pattern.specs.Flat.{Terms, none, alt, empty, put, group, star, class, class_where, numbers_from, terms_size}
use Rattle.pol_pattern.specs.Spelling.{only, copies}
use Rattle.pol_pattern.specs.Reading.{class_symbol_at, item_at, items_from, class_at, counts_at, counted_at, token_at, context_after, tokens_from, build, reading_by, reading}

abbrev size_of : Result Terms PatternFault → ℕ
size_of (Ok flat) = terms_size flat
size_of (Err fault) = 0

close_unopened : reading (codes "a)") ≡ Err (faults.Unopened 1)
unfolding reading_by class_symbol_at item_at items_from class_at counts_at counted_at token_at context_after tokens_from build copies class_where numbers_from
close_unopened = refl

open_unclosed : reading (codes "(a") ≡ Err (faults.Unclosed 0)
unfolding reading_by class_symbol_at item_at items_from class_at counts_at counted_at token_at context_after tokens_from build copies class_where numbers_from
open_unclosed = refl

last_open_unclosed : reading (codes "((a") ≡ Err (faults.Unclosed 1)
unfolding reading_by class_symbol_at item_at items_from class_at counts_at counted_at token_at context_after tokens_from build copies class_where numbers_from
last_open_unclosed = refl

range_backwards : reading (codes "[z-a]") ≡ Err (faults.BadClass 0)
unfolding reading_by class_symbol_at item_at items_from class_at counts_at counted_at token_at context_after tokens_from build copies class_where numbers_from
range_backwards = refl

class_without_items : reading (codes "[]") ≡ Err (faults.BadClass 0)
unfolding reading_by class_symbol_at item_at items_from class_at counts_at counted_at token_at context_after tokens_from build copies class_where numbers_from
class_without_items = refl

negated_without_items : reading (codes "[^]") ≡ Err (faults.BadClass 0)
unfolding reading_by class_symbol_at item_at items_from class_at counts_at counted_at token_at context_after tokens_from build copies class_where numbers_from
negated_without_items = refl

range_without_end : reading (codes "[a-]") ≡ Err (faults.BadClass 0)
unfolding reading_by class_symbol_at item_at items_from class_at counts_at counted_at token_at context_after tokens_from build copies class_where numbers_from
range_without_end = refl

range_without_start : reading (codes "[-a]") ≡ Err (faults.BadClass 0)
unfolding reading_by class_symbol_at item_at items_from class_at counts_at counted_at token_at context_after tokens_from build copies class_where numbers_from
range_without_start = refl

class_unclosed : reading (codes "[a") ≡ Err (faults.BadClass 0)
unfolding reading_by class_symbol_at item_at items_from class_at counts_at counted_at token_at context_after tokens_from build copies class_where numbers_from
class_unclosed = refl

escape_in_class_unclosed : reading (codes "a[b\\") ≡ Err (faults.BadClass 1)
unfolding reading_by class_symbol_at item_at items_from class_at counts_at counted_at token_at context_after tokens_from build copies class_where numbers_from
escape_in_class_unclosed = refl

escape_of_nothing : reading (codes "a\\") ≡ Err (faults.BadEscape 1)
unfolding reading_by class_symbol_at item_at items_from class_at counts_at counted_at token_at context_after tokens_from build copies class_where numbers_from
escape_of_nothing = refl

star_first : reading (codes "*a") ≡ Err (faults.NothingToRepeat 0)
unfolding reading_by class_symbol_at item_at items_from class_at counts_at counted_at token_at context_after tokens_from build copies class_where numbers_from
star_first = refl

star_after_bar : reading (codes "a|*") ≡ Err (faults.NothingToRepeat 2)
unfolding reading_by class_symbol_at item_at items_from class_at counts_at counted_at token_at context_after tokens_from build copies class_where numbers_from
star_after_bar = refl

star_after_open : reading (codes "(*a)") ≡ Err (faults.NothingToRepeat 1)
unfolding reading_by class_symbol_at item_at items_from class_at counts_at counted_at token_at context_after tokens_from build copies class_where numbers_from
star_after_open = refl

open_at_depth_32 : reading (codes "((((((((((((((((((((((((((((((((") ≡ Err (faults.Unclosed 31)
unfolding reading_by class_symbol_at item_at items_from class_at counts_at counted_at token_at context_after tokens_from build copies class_where numbers_from
open_at_depth_32 = refl

open_at_depth_33 : reading (codes "(((((((((((((((((((((((((((((((((") ≡ Err (faults.TooDeep)
unfolding reading_by class_symbol_at item_at items_from class_at counts_at counted_at token_at context_after tokens_from build copies class_where numbers_from
open_at_depth_33 = refl

first_fault : reading (codes "()|(a)[a-]*)") ≡ Err (faults.BadClass 6)
unfolding reading_by class_symbol_at item_at items_from class_at counts_at counted_at token_at context_after tokens_from build copies class_where numbers_from
first_fault = refl

doubled_eight_times : reading (codes "a++++++++") ≡ Err (faults.TooLarge)
unfolding reading_by class_symbol_at item_at items_from class_at counts_at counted_at token_at context_after tokens_from build copies class_where numbers_from
doubled_eight_times = refl

doubled_seven_times : size_of (reading (codes "a+++++++")) ≡ 255
unfolding reading_by class_symbol_at item_at items_from class_at counts_at counted_at token_at context_after tokens_from build copies class_where numbers_from
doubled_seven_times = refl

no_bytes : reading [] ≡ Ok (alt empty none)
unfolding reading_by class_symbol_at item_at items_from class_at counts_at counted_at token_at context_after tokens_from build copies class_where numbers_from
no_bytes = refl

star_of_group : reading (codes "a?*") ≡ Ok (alt (put (star (alt (put (class (only 97)) empty) (alt empty none))) empty) none)
unfolding reading_by class_symbol_at item_at items_from class_at counts_at counted_at token_at context_after tokens_from build copies class_where numbers_from
star_of_group = refl

star_of_parentheses : reading (codes "(a|b)*") ≡ Ok (alt (put (star (alt (put (class (only 97)) empty) (alt (put (class (only 98)) empty) none))) empty) none)
unfolding reading_by class_symbol_at item_at items_from class_at counts_at counted_at token_at context_after tokens_from build copies class_where numbers_from
star_of_parentheses = refl

star_of_empty : reading (codes "()*") ≡ Ok (alt (put (star (alt empty none)) empty) none)
unfolding reading_by class_symbol_at item_at items_from class_at counts_at counted_at token_at context_after tokens_from build copies class_where numbers_from
star_of_empty = refl

not_a_caret : reading (codes "[^^]") ≡ Ok (alt (put (class (class_where (λ byte. not (byte == 94)))) empty) none)
unfolding reading_by class_symbol_at item_at items_from class_at counts_at counted_at token_at context_after tokens_from build copies class_where numbers_from
not_a_caret = refl

class_of_items : reading (codes "[a-b\\]]") ≡ Ok (alt (put (class (class_where (λ byte. byte == 97 || byte == 98 || byte == 93))) empty) none)
unfolding reading_by class_symbol_at item_at items_from class_at counts_at counted_at token_at context_after tokens_from build copies class_where numbers_from
class_of_items = refl

empty_alternative : reading (codes "a|b|") ≡ Ok (alt (put (class (only 97)) empty) (alt (put (class (only 98)) empty) (alt empty none)))
unfolding reading_by class_symbol_at item_at items_from class_at counts_at counted_at token_at context_after tokens_from build copies class_where numbers_from
empty_alternative = refl

plus_of_last : reading (codes "ab+") ≡ Ok (alt (put (class (only 97)) (put (class (only 98)) (put (star (alt (put (class (only 98)) empty) none)) empty))) none)
unfolding reading_by class_symbol_at item_at items_from class_at counts_at counted_at token_at context_after tokens_from build copies class_where numbers_from
plus_of_last = refl

counts_backwards : reading (codes "a{3,2}") ≡ Err (faults.BadRepeat 1)
unfolding reading_by class_symbol_at item_at items_from class_at counts_at counted_at token_at context_after tokens_from build copies class_where numbers_from
counts_backwards = refl

brace_ends_nothing : reading (codes "a}") ≡ Err (faults.BadRepeat 1)
unfolding reading_by class_symbol_at item_at items_from class_at counts_at counted_at token_at context_after tokens_from build copies class_where numbers_from
brace_ends_nothing = refl

brace_unclosed : reading (codes "a{") ≡ Err (faults.BadRepeat 1)
unfolding reading_by class_symbol_at item_at items_from class_at counts_at counted_at token_at context_after tokens_from build copies class_where numbers_from
brace_unclosed = refl

count_too_high : reading (codes "a{33}") ≡ Err (faults.BadRepeat 1)
unfolding reading_by class_symbol_at item_at items_from class_at counts_at counted_at token_at context_after tokens_from build copies class_where numbers_from
count_too_high = refl

count_first : reading (codes "{2}") ≡ Err (faults.NothingToRepeat 0)
unfolding reading_by class_symbol_at item_at items_from class_at counts_at counted_at token_at context_after tokens_from build copies class_where numbers_from
count_first = refl

no_count_first : reading (codes "({") ≡ Err (faults.NothingToRepeat 1)
unfolding reading_by class_symbol_at item_at items_from class_at counts_at counted_at token_at context_after tokens_from build copies class_where numbers_from
no_count_first = refl

three_digits : reading (codes "a{032}") ≡ Err (faults.BadRepeat 1)
unfolding reading_by class_symbol_at item_at items_from class_at counts_at counted_at token_at context_after tokens_from build copies class_where numbers_from
three_digits = refl

no_least_count : reading (codes "a{,2}") ≡ Err (faults.BadRepeat 1)
unfolding reading_by class_symbol_at item_at items_from class_at counts_at counted_at token_at context_after tokens_from build copies class_where numbers_from
no_least_count = refl

end_after_count : reading (codes "a{2}}") ≡ Err (faults.BadRepeat 4)
unfolding reading_by class_symbol_at item_at items_from class_at counts_at counted_at token_at context_after tokens_from build copies class_where numbers_from
end_after_count = refl

end_after_quoted : reading (codes "\\{2}") ≡ Err (faults.BadRepeat 3)
unfolding reading_by class_symbol_at item_at items_from class_at counts_at counted_at token_at context_after tokens_from build copies class_where numbers_from
end_after_quoted = refl

repeated_never : reading (codes "a{0}") ≡ Ok (alt empty none)
unfolding reading_by class_symbol_at item_at items_from class_at counts_at counted_at token_at context_after tokens_from build copies class_where numbers_from
repeated_never = refl

repeated_twice : reading (codes "a{02}") ≡ Ok (alt (put (class (only 97)) (put (class (only 97)) empty)) none)
unfolding reading_by class_symbol_at item_at items_from class_at counts_at counted_at token_at context_after tokens_from build copies class_where numbers_from
repeated_twice = refl

repeated_once_or_twice : reading (codes "a{1,2}") ≡ Ok (alt (put (class (only 97)) (put (group (alt (put (class (only 97)) empty) (alt empty none))) empty)) none)
unfolding reading_by class_symbol_at item_at items_from class_at counts_at counted_at token_at context_after tokens_from build copies class_where numbers_from
repeated_once_or_twice = refl

star_of_one_count : reading (codes "a{0,1}*") ≡ Ok (alt (put (star (alt (put (class (only 97)) empty) (alt empty none))) empty) none)
unfolding reading_by class_symbol_at item_at items_from class_at counts_at counted_at token_at context_after tokens_from build copies class_where numbers_from
star_of_one_count = refl

braces_of_old : reading_by One (codes "a{2}") ≡ reading (codes "a\\{2\\}")
unfolding reading_by class_symbol_at item_at items_from class_at counts_at counted_at token_at context_after tokens_from build copies class_where numbers_from
braces_of_old = refl
