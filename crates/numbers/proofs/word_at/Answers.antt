-- `numbers::word_at` meets its promise: the bytes from that place on tell the number, and where they are fewer than four the others are 0.
use lib.ListN.{get_or-eq_default}
use mathlib.Core.Path.{sym}
use native.Mathlib.Omega.{arith}
use Rattle.numbers.proofs.WordLaws.{word_behind, word_of_rest}
use Rattle.numbers.proofs.word_at.Goals as goal

pub returns-in_default : goal.returns-in_default
returns-in_default c = sym (word_behind c.args.file.now c.args.at (grind (arith, c.in_default.ensures.lookup.0)))

pub returns-in-empty : goal.returns-in-empty
returns-in-empty c = sym (word_behind c.args.file.now c.args.at (omega (arith, c.in-Some.ensures.lookup.0.3)))

pub returns-in-len1 : goal.returns-in-len1
returns-in-len1 c =
    let rest = c.in-Some.rest.now in
    let second = get_or-eq_default rest 0 {n = 1} (omega arith) in
    let third = get_or-eq_default rest 0 {n = 2} (omega arith) in
    let fourth = get_or-eq_default rest 0 {n = 3} (omega arith) in
    omega (arith, word_of_rest c.args.file.now c.args.at c.in-Some.ensures.lookup.0.2)

pub returns-in-len2 : goal.returns-in-len2
returns-in-len2 c =
    let rest = c.in-Some.rest.now in
    let third = get_or-eq_default rest 0 {n = 2} (omega arith) in
    let fourth = get_or-eq_default rest 0 {n = 3} (omega arith) in
    omega (arith, word_of_rest c.args.file.now c.args.at c.in-Some.ensures.lookup.0.2)

pub returns-in-len4-up : goal.returns-in-len4-up
returns-in-len4-up c = omega (arith, word_of_rest c.args.file.now c.args.at c.in-Some.ensures.lookup.0.2)

pub returns-in-len3-up : goal.returns-in-len3-up
returns-in-len3-up c =
    let rest = c.in-Some.rest.now in
    let fourth = get_or-eq_default rest 0 {n = 3} (omega (arith, c.in_default-rest.len_below)) in
    omega (arith, word_of_rest c.args.file.now c.args.at c.in-Some.ensures.lookup.0.2)
