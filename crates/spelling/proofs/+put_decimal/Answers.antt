-- The goals that the search leaves.
use native.Mathlib.Omega.{arith}
use Rattle.spelling.proofs.Digits.{digit_room, tenth_room, last_room, one_digit, last_digit}
use Rattle.spelling.proofs.+put_decimal.Goals as goal

pub put_byte-requires : goal.put_byte-requires
put_byte-requires t c = digit_room c.args.at c.args.n c.requires c.if-n-lt10.true

pub returns-then-n-lt10 : goal.returns-then-n-lt10
returns-then-n-lt10 t c = one_digit c.if-n-lt10.true c.digit.ensures c.put_byte.ensures

pub put_decimal-last-requires : goal.put_decimal-last-requires
put_decimal-last-requires t c = (omega (arith, c.decreases, c.if-n-lt10.false), tenth_room c.args.at c.args.n c.requires c.if-n-lt10.false)

pub put_byte-requires-2 : goal.put_byte-requires-2
put_byte-requires-2 t c = last_room c.args.at c.args.n c.requires c.if-n-lt10.false c.put_decimal-last.ensures

pub returns : goal.returns
returns t c = last_digit c.if-n-lt10.false c.digit-2.ensures c.put_decimal-last.ensures c.put_byte-2.ensures
