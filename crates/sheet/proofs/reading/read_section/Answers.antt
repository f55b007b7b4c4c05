-- `read_section` meets its contract: the tests that led to each answer are those of its definition, in their order.
-- Assumes nothing.
use borrow.Author.Tests.{lt-ltb, le-ltb}
use Rattle.sheet.specs.Private.{section_of}
use Rattle.sheet.proofs.reading.read_section.Goals as goal

pub returns-then-sheet-start-clause-is : goal.returns-then-sheet-start-clause-is
unfolding section_of
returns-then-sheet-start-clause-is c = simp (lt-ltb _ _ c.if-sheet-start.true)

pub returns-then-most-count-clause-is : goal.returns-then-most-count-clause-is
unfolding section_of
returns-then-most-count-clause-is c = simp (le-ltb _ _ c.if-sheet-start.false, ← c.two-count.ensures, lt-ltb _ _ c.if-most-count.true)

pub returns-then-sheet-start-2-clause-is : goal.returns-then-sheet-start-2-clause-is
unfolding section_of
returns-then-sheet-start-2-clause-is c = simp (le-ltb _ _ c.if-sheet-start.false, ← c.two-count.ensures, le-ltb _ _ c.if-most-count.false, lt-ltb _ _ c.if-sheet-start-2.true)

pub returns-clause-is : goal.returns-clause-is
unfolding section_of
returns-clause-is c = simp (le-ltb _ _ c.if-sheet-start.false, ← c.two-count.ensures, le-ltb _ _ c.if-most-count.false, le-ltb _ _ c.if-sheet-start-2.false)
