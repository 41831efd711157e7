-- `groups::groups` meets its contract.
use Rattle.std.proofs.Common.{rules}
use Rattle.cipher.specs.Book.{group_part}
use Rattle.cipher.specs.Coding.{set_of}
use Rattle.table_maker.specs.Made.{three_keys}
use Rattle.book.proofs.GroupLaws.{group_made}
use Rattle.book.proofs.groups.groups.Goals as goal

pub returns : goal.returns
returns c =
    let a = c.args in
    c.in_parts.ensures (λ g. group_part (set_of a.last.bytes.now) (set_of a.message.bytes.now) (set_of a.first.now) (three_keys a.keys.k1 a.keys.k2 g)) (λ p part left l e w.
    group_made a.last.bytes.now a.message.bytes.now a.first.now a.keys.k1 a.keys.k2 _ _ left.now p c.of-s.ensures c.of-u.ensures l (search rules))
