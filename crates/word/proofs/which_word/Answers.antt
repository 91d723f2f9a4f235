-- `word::which_word` meets its contract: of a known length, few reserved words are left.
use borrow.Author.Tests.{ne_eqb}
use Rattle.word.specs.Word.{which_word}
use Rattle.word.proofs.which_word.Goals as goal

pub returns-in-3 : goal.returns-in-3
unfolding which_word
returns-in-3 c = rw c.in-3.is c.word_or.ensures

pub returns-in-4 : goal.returns-in-4
unfolding which_word
returns-in-4 c = rw c.in-4.is (rw c.word_or-w.ensures at c.word_or-in-4.ensures)

pub returns-in-5 : goal.returns-in-5
unfolding which_word
returns-in-5 c =
    rw c.in-5.is
    (rw (
      c.word_or-w-in-5-3.ensures,
      c.word_or-w-in-5-2.ensures,
      c.word_or-w-in-5.ensures,
    )
    at c.word_or-in-5.ensures)

pub returns-in-6 : goal.returns-in-6
unfolding which_word
returns-in-6 c =
    rw c.in-6.is
    (rw (c.word_or-w-in-6-2.ensures, c.word_or-w-in-6.ensures)
    at c.word_or-in-6.ensures)

pub returns-in-7 : goal.returns-in-7
unfolding which_word
returns-in-7 c = rw c.in-7.is c.word_or-in-7.ensures

pub returns-in-8 : goal.returns-in-8
unfolding which_word
returns-in-8 c = rw c.in-8.is (rw c.word_or-w-in-8.ensures at c.word_or-in-8.ensures)

pub returns-in-9 : goal.returns-in-9
unfolding which_word
returns-in-9 c = rw c.in-9.is c.word_or-in-9.ensures

pub returns-in_default : goal.returns-in_default
unfolding which_word
returns-in_default c =
    let r = c.in_default.in_default-own.rest in
    rw (
      ne_eqb _ 3 r.0.0.0.0.0.0.1,
      ne_eqb _ 4 r.0.0.0.0.0.1,
      ne_eqb _ 5 r.0.0.0.0.1,
      ne_eqb _ 6 r.0.0.0.1,
      ne_eqb _ 7 r.0.0.1,
      ne_eqb _ 8 r.0.1,
      ne_eqb _ 9 r.1,
    )
