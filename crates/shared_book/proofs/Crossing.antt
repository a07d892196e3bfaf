-- A port may cross threads where its disk, its tree and what it waits by may.
use denote.RattleType.{RattleType}
use denote.Param.Send.{IsSend, IsSync, sendable}
use denote.Param.SendFields.{as_row_send, declared_send}
use denote.Struct.Field.{row_field}
use Rattle.std.proofs.Crossing.{crosses}
use Rattle.std.specs.contracts.alloc.Global as Global
use Rattle.std.specs.contracts.impls.GlobalAllocator.TheImpl.{ghosts}
use Rattle.std.specs.contracts.sync.Arc as Arc
use Rattle.base_kinds.specs.declared.tree.TreeLike as trees
use Rattle.disk_model.specs.declared.disk.Disk as disks
use Rattle.book_core.specs.contracts.book.Book as Book
use Rattle.book_core.specs.contracts.chronicle.Chronicle as Chronicle
use Rattle.book_core.specs.contracts.chronicle.Told as Told
use Rattle.book_core.proofs.chronicle.Told.TheLaws.TheKnot as told
use Rattle.turn_lock.specs.contracts.lock.Pass as Pass
use Rattle.turn_lock.specs.contracts.lock.TurnLock as TurnLock
use Rattle.turn_lock.specs.declared.chronicle.Chronicle as chronicles
use Rattle.turn_lock.proofs.lock.Pass.TheSendSync as passes
use Rattle.turn_lock.proofs.lock.TurnLock.TheSendSync as locks
use Rattle.shared_book.specs.contracts.held.HeldBook as HeldBook
use Rattle.shared_book.specs.contracts.held.HeldBookChronicle.TheImpl.{ghosts as held_chronicle, no_dict}
use Rattle.shared_book.specs.contracts.item.SharedItem as SharedItem
use Rattle.shared_book.specs.contracts.visit.Visit as Visit
use Rattle.shared_book.specs.contracts.visit.Visit.TheInside as Inside
use Rattle.shared_book.proofs.Sending.{core_send, ledger_send}

told_send : IsSend (Told.the_field).row
told_send = search (sendable, crosses, told.crosses) depth 60

chronicle_send : IsSend (Chronicle.the_field).row
chronicle_send = search (sendable, crosses, told_send) depth 40

module _ (V E : RattleType) (chronicle : chronicles.Ghosts V.Denot E.Denot) where
  lock_send : IsSend V → IsSend (TurnLock.the_row V E chronicle)
  lock_send v = search (sendable, crosses, locks.the_field_send) depth 40 fits 10000

  lock_sync : IsSend V → IsSync (TurnLock.the_row V E chronicle)
  lock_sync v = search (sendable, crosses, locks.the_field_sync) depth 40 fits 10000

  shared_send : IsSend V → IsSend (Arc.the_field (TurnLock.the_row V E chronicle) Global.the_row ghosts).row
  shared_send v = let a = lock_send v in let b = lock_sync v in search (sendable, crosses) depth 40 fits 10000

module _ (V E : RattleType) where
  pass_send : IsSend V → IsSend (Pass.the_field V E).row
  pass_send v = search (sendable, crosses, passes.the_field_send) depth 40 fits 10000

module _ (D T : RattleType) (disk : disks.Ghosts D.Denot) (tree : trees.Ghosts T.Denot) where
  pub book_send : IsSend D → IsSend T → IsSend (Book.the_field D T disk tree).row
  book_send d t = let a = ledger_send D disk d in let b = core_send T tree t in search (sendable, crosses, chronicle_send) depth 40 fits 10000

  held_send : IsSend D → IsSend T → IsSend (HeldBook.the_row D T disk tree)
  held_send d t = let a = book_send d t in search (sendable, crosses) depth 40 fits 10000

  abbrev held : RattleType
  held = HeldBook.the_row D T disk tree

  abbrev lock : RattleType
  lock = TurnLock.the_row held SharedItem.the_row (held_chronicle D T disk no_dict tree no_dict no_dict)

  inside_send : (R : RattleType) → IsSend D → IsSend T → IsSend R → IsSend (Inside.the_row D T R disk tree)
  inside_send R d t r = let h = held_send d t in
      declared_send (Inside.the_type D T R disk tree) (
        as_row_send (row_field R) r,
        (
          as_row_send (Arc.the_field lock Global.the_row ghosts) (shared_send held SharedItem.the_row (held_chronicle D T disk no_dict tree no_dict no_dict) h),
          (as_row_send (Pass.the_field held SharedItem.the_row) (pass_send held SharedItem.the_row h), tt),
        ),
      )

  pub visit_send : (R : RattleType) → IsSend D → IsSend T → IsSend R → IsSend (Visit.the_row D T R disk tree)
  visit_send R d t r = let a = inside_send R d t r in search (sendable) depth 40
