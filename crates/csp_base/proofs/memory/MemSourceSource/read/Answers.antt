use Rattle.std.proofs.Common.{◌≡◌, ◌-◌, min, take, drop, length, ap, arith}
use Rattle.std.proofs.lemmas.Grind.{common_steps}
use Rattle.csp_base.proofs.MemoryLemmas.{read_front, none_left}
use Rattle.csp_base.proofs.memory.MemSourceSource.read.Goals as goal

pub returns-clause-bytes : goal.returns-clause-bytes
returns-clause-bytes c =
    let bytes = c.self.inside.bytes.items in
    let at = c.self.inside.at in
    let n = c.copy_front-count.result in
    let is_left : drop at bytes ≡ c.args.self.now.left = ap (λ s. s.left) c.self.view_is in
    let is_front : take n c.copy_front-count.new.to ≡ take n (drop at bytes) = grind (arith, common_steps, c.copy_front-count.ensures.copied, c.deref-2.ensures.value) in
    let is_least : n ≡ min (length bytes - at) (length c.args.buf.now) = grind (arith, common_steps, c.copy_front-count.ensures.count, c.deref-2.ensures.value) in
    (rw (← is_left) (read_front bytes _ at n is_front), λ z h. none_left bytes at n _ is_least z (omega (arith, c.copy_front-count.auto.to)))
