-- `lines::put_ending` meets its contract: number by number.
-- Assumes nothing.
use mathlib.Core.Path.{refl, ap}
use Rattle.plpb.specs.Search.{floor, ended, none, short_found, short_none}
use Rattle.lines.specs.Text.{text, ending_of, ending_word}
use Rattle.lines.proofs.Items.{ending_last, ending_written}
use Rattle.lines.proofs.put_ending.Goals as goal

pub returns-in-1 : goal.returns-in-1
unfolding ending_of ending_word text
returns-in-1 c = ending_written _ floor c.args.ending (ending_word floor) (ap ending_of c.in-1.is) refl c.put_word.ensures.0 c.put_word.ensures.1

pub returns-in-2 : goal.returns-in-2
unfolding ending_of ending_word text
returns-in-2 c = ending_written _ ended c.args.ending (ending_word ended) (ap ending_of c.in-2.is) refl c.put_word-in-2.ensures.0 c.put_word-in-2.ensures.1

pub returns-in-3 : goal.returns-in-3
unfolding ending_of ending_word text
returns-in-3 c = ending_written _ none c.args.ending (ending_word none) (ap ending_of c.in-3.is) refl c.put_word-in-3.ensures.0 c.put_word-in-3.ensures.1

pub returns-in-4 : goal.returns-in-4
unfolding ending_of ending_word text
returns-in-4 c = ending_written _ short_found c.args.ending (ending_word short_found) (ap ending_of c.in-4.is) refl c.put_word-in-4.ensures.0 c.put_word-in-4.ensures.1

pub returns-in_default : goal.returns-in_default
unfolding ending_of ending_word text
returns-in_default c = ending_written _ short_none c.args.ending (ending_word short_none) (ending_last _ c.in_default.in_default-own.rest.0.0.0.1 c.in_default.in_default-own.rest.0.0.1 c.in_default.in_default-own.rest.0.1 c.in_default.in_default-own.rest.1) refl c.put_word-in_default.ensures.0 c.put_word-in_default.ensures.1
