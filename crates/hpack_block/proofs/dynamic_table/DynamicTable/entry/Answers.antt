use Rattle.hpack_block.proofs.TableLemmas.{entry_at-past, entry_at-dynamic, entry_at-first}
use Rattle.hpack_block.proofs.dynamic_table.DynamicTable.entry.Goals as goal

pub returns-then-place-lt-STATIC_ENTRIES : goal.returns-then-place-lt-STATIC_ENTRIES
returns-then-place-lt-STATIC_ENTRIES c =
    entry_at-first c.args.self.now c.args.index _ c.if-index-eq0.false c.if-place-lt-STATIC_ENTRIES.true c.static_entry.ensures

pub returns-in_err-header : goal.returns-in_err-header
returns-in_err-header c =
    rw c.from_residual.ensures (entry_at-past c.args.self.now c.args.index c.if-index-eq0.false c.if-place-lt-STATIC_ENTRIES.false c.in_err-header.ensures)

pub returns : goal.returns
returns c =
    entry_at-dynamic c.args.self.now c.args.index _ c.if-index-eq0.false c.if-place-lt-STATIC_ENTRIES.false
    (rw (c.items.ensures, c.items-2.ensures) c.in_ok-header.ensures)
