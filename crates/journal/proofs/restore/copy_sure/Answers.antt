use Rattle.std.proofs.Common.{◌≡◌, ℕ, ◌+◌, ◌-◌, ◌≤◌, min, List, [], ◌++◌, length, take, vec_items, ap, ◌∙◌, subst, arith, length-append}
use Rattle.protocol_files.specs.Disk.{contents, with_beside}
use Rattle.journal.proofs.Copies.{window}
use Rattle.journal.proofs.restore.copy_sure.Goals as goal

pub loop-place-preserved : goal.loop-place-preserved
loop-place-preserved g c =
    let read = c.in_ok-read.ensures in
    let wrote = c.in_ok-write_beside.ensures in
    let place = c.loop-place.place in
    let sure = c.sure-sure.result in
    let w = vec_items c.read.new.into in
    let (inv, state, sent) = c.loop-place.invariant in (
      λ d h size.
          let bs = contents d.file in
          let d1 = with_beside (record { synced = []; pending = take place bs }) d in
          let h1 = (inv d h size).1 in
          let enough : sure ≤ length bs = omega (arith, size, length-append d.file.synced d.file.pending) in
          let few : c.min-most.result ≤ sure - place = omega (arith, c.min-most.ensures) in
          let next : c.saturating_add-place.result ≡ min (place + length w) 18446744073709551615 = omega (arith, c.saturating_add-place.ensures, c.len.ensures, c.read.new.into.ok.0) in
          let (low, more) = window bs w place c.min-most.result sure c.saturating_add-place.result enough c.loop-place-test.true c.sure-sure.type_inv few (read.bytes d1 h1) next in (
            low,
            subst (λ (x : List ℕ). g.S.Storage.holds c.write_beside.new.self (with_beside (record { synced = []; pending = x }) d))
                (ap (λ (x : List ℕ). take place bs ++ x) c.deref.ensures.value ∙ more)
                (wrote.disk d1 (read.disk d1 h1)),
          ),
      wrote.state ∙ read.state ∙ state,
      wrote.sent ∙ read.sent ∙ sent,
    )
