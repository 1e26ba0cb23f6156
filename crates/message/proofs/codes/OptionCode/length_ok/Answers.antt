-- `codes::OptionCode::length_ok` meets its contract: one row of the table for each code.
use Rattle.lists.specs.Filter.{is_in}
use Rattle.lists.specs.Pick.{pick}
use Rattle.message.proofs.Steps.{length_above}
use Rattle.message.specs.Codes.{length_ok}
use borrow.Author.Tests.{eq-eqb, le-leb, lt-leb, ne_eqb}
use native.Mathlib.Omega.{arith}
use Rattle.message.proofs.codes.OptionCode.length_ok.Goals as goal

pub returns-in-0 : goal.returns-in-0
unfolding length_ok is_in pick
returns-in-0 c = rw c.in-0.is

pub returns-in-1 : goal.returns-in-1
unfolding length_ok is_in pick
returns-in-1 c = rw c.in-1.is

pub returns-then-n-eq6 : goal.returns-then-n-eq6
unfolding length_ok is_in pick
returns-then-n-eq6 c = rw (c.in-2.is, eq-eqb _ _ c.if-n-eq6.true)

pub returns-else-n-eq6 : goal.returns-else-n-eq6
unfolding length_ok is_in pick
returns-else-n-eq6 c = rw (c.in-2.is, ne_eqb _ _ c.if-n-eq6.false)

pub returns-then-n-ge2 : goal.returns-then-n-ge2
unfolding length_ok is_in pick
returns-then-n-ge2 c = rw (c.in-3.is, le-leb _ _ c.if-n-ge2.true)

pub returns-else-n-ge2 : goal.returns-else-n-ge2
unfolding length_ok is_in pick
returns-else-n-ge2 c = rw (c.in-3.is, lt-leb _ _ c.if-n-ge2.false)

pub returns-in-4 : goal.returns-in-4
unfolding length_ok is_in pick
returns-in-4 c = rw c.in-4.is

pub returns-then-n-ge2-2 : goal.returns-then-n-ge2-2
unfolding length_ok is_in pick
returns-then-n-ge2-2 c = rw (c.in-5.is, le-leb _ _ c.if-n-ge2-2.true)

pub returns-else-n-ge2-2 : goal.returns-else-n-ge2-2
unfolding length_ok is_in pick
returns-else-n-ge2-2 c = rw (c.in-5.is, lt-leb _ _ c.if-n-ge2-2.false)

pub returns-in-6 : goal.returns-in-6
unfolding length_ok is_in pick
returns-in-6 c = rw c.in-6.is

pub returns-in-7 : goal.returns-in-7
unfolding length_ok is_in pick
returns-in-7 c = rw c.in-7.is

pub returns-in-8 : goal.returns-in-8
unfolding length_ok is_in pick
returns-in-8 c = rw c.in-8.is

pub returns-in-9 : goal.returns-in-9
unfolding length_ok is_in pick
returns-in-9 c = rw c.in-9.is

pub returns-then-n-ge6 : goal.returns-then-n-ge6
unfolding length_ok is_in pick
returns-then-n-ge6 c = rw (c.in-10.is, le-leb _ _ c.if-n-ge6.true)

pub returns-else-n-ge6 : goal.returns-else-n-ge6
unfolding length_ok is_in pick
returns-else-n-ge6 c = rw (c.in-10.is, lt-leb _ _ c.if-n-ge6.false)

pub returns-in-11 : goal.returns-in-11
unfolding length_ok is_in pick
returns-in-11 c = rw c.in-11.is

pub returns-in-12 : goal.returns-in-12
unfolding length_ok is_in pick
returns-in-12 c = rw c.in-12.is

pub returns-in-13 : goal.returns-in-13
unfolding length_ok is_in pick
returns-in-13 c = rw c.in-13.is

pub returns-in-14 : goal.returns-in-14
unfolding length_ok is_in pick
returns-in-14 c = rw c.in-14.is

pub returns-in-15 : goal.returns-in-15
unfolding length_ok is_in pick
returns-in-15 c = rw c.in-15.is

pub returns-in-16 : goal.returns-in-16
unfolding length_ok is_in pick
returns-in-16 c = rw c.in-16.is

pub returns-in_default : goal.returns-in_default
unfolding length_ok is_in pick
returns-in_default c = length_above c.args.self.number c.args.n (omega arith)
