-- The check leaves this open: a word of the cells that are used is one of the memory's.
use Rattle.std.proofs.Common.{List, ℕ, slice_get, ap, ◌∙◌}
use Rattle.std.specs.Option.{ok_or}
use Rattle.memory.specs.Cells.{usable}
use Rattle.memory.specs.declared.access_refusal.AccessRefusal.TheVariants.{OutOfRange}
use Rattle.memory.proofs.Words.{used_words, read_words}
use Rattle.memory.proofs.lent_memory.LentMemoryMemory.read.Goals as goal

pub returns : goal.returns
returns g c =
    let e = used_words g.C.Cell.PER_WORD g.C.Cell.base g.C.Cell.digits g.met.C.Cell.count c.args.self.now.cells.now c.args.self.now.used c.args.self.now.used_cells in
    c.ok_or.ensures.value
    ∙ ap (λ o. ok_or o OutOfRange) (c.word_at.ensures ∙ ap (λ (words : List ℕ). slice_get words c.args.address) e)
    ∙ read_words (usable g.C.Cell.PER_WORD g.C.Cell.base (g.C.Cell.digits c.args.self.now.cells.now)) c.args.address
