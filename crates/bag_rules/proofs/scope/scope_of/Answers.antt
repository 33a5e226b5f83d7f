use Rattle.std.proofs.Common.{length, subst, string_bytes, sym}
use Rattle.bag_rules.proofs.Words.{IsFirstUnknownOf, NoneUnknown}
use Rattle.bag_rules.proofs.DeclaredLemmas.{bad_declaration, is_declared, known_algorithms, other_declaration, unknown_algorithm}
use Rattle.bag_rules.proofs.OctetsLemmas.{rises_as}
use Rattle.bag_rules.proofs.scope.scope_of.Goals as goal

pub returns-in-Err : goal.returns-in-Err
returns-in-Err g c = λ bag is holds. bad_declaration bag c.args.text.now c.in-Err.cause (rises_as bag is c.requires) holds c.in-Err.ensures.fault

pub returns-in-Err-known_version : goal.returns-in-Err-known_version
returns-in-Err-known_version g c = λ bag is holds. other_declaration bag c.in-Ok.declaration c.in-Err-known_version.cause (rises_as bag is c.requires) (c.args.text.now, holds, c.in-Ok.ensures.read) c.in-Err-known_version.ensures

pub returns-in-Some : goal.returns-in-Some
returns-in-Some g c = λ bag is holds.
    let first = rw c.in-Some.is at c.in_ok-name.ensures in
    let rising = rises_as bag is c.requires in
    unknown_algorithm bag c.in-Some.name rising (is_declared bag c.in-Ok.declaration c.in-Ok-known_version.version rising (c.args.text.now, holds, c.in-Ok.ensures.read) c.in-Ok-known_version.ensures.0 c.in-Ok-known_version.ensures.1)
    (subst (λ ps. IsFirstUnknownOf ps (string_bytes c.in-Some.name)) (sym is.paths) first)

pub returns-in-None : goal.returns-in-None
returns-in-None g c = λ bag is holds.
    known_algorithms bag c.in-Ok.declaration c.in-Ok-known_version.version (rises_as bag is c.requires) (c.args.text.now, holds, c.in-Ok.ensures.read) c.in-Ok-known_version.ensures.0 c.in-Ok-known_version.ensures.1
    (subst (λ ps. NoneUnknown ps (length ps)) (sym is.paths) (rw c.in-None.is at c.in_ok-name.ensures))
