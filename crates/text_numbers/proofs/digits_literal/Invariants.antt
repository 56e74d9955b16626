-- The digits that are left, behind the size so far, make a number that is in the range where the whole is, and is the whole then.
use Rattle.std.proofs.Common.{◌≡◌, drop}
use Rattle.rules.specs.Lists.{all}
use Rattle.rules.specs.Numbers.{is_digit}
use Rattle.text_numbers.proofs.Laws.{number}
use Rattle.text_numbers.proofs.digits_literal.Given as goal

abbrev pub invariant-loop-digit : goal.invariant-loop-digit
invariant-loop-digit l = record {
  digits_so_far : all is_digit (drop l.digit-index l.digits) ≡ all is_digit l.digits;
  same_number : number l.minus l.size (drop l.digit-index l.digits) ≡ number l.minus 0 l.digits;
}
