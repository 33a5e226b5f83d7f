use Rattle.std.proofs.Common.{rules}
use Rattle.bag_tags.specs.declared.name.TagName.TheVariants.{Declaration, PayloadManifest, TagManifest, UnknownManifest, Info, FetchList}
use Rattle.bag_tags.proofs.NameLemmas.{one_name}
use Rattle.bag_tags.proofs.name.TagName.of.Goals as goal

pub returns-then-eq-clause-only : goal.returns-then-eq-clause-only
returns-then-eq-clause-only c name h = one_name c.args.path.now Declaration name (search rules) h

pub returns-then-eq-2-clause-only : goal.returns-then-eq-2-clause-only
returns-then-eq-2-clause-only c name h = one_name c.args.path.now Info name (search rules) h

pub returns-then-eq-3-clause-only : goal.returns-then-eq-3-clause-only
returns-then-eq-3-clause-only c name h = one_name c.args.path.now FetchList name (search rules) h

pub returns-in-Some-from_name-clause-only : goal.returns-in-Some-from_name-clause-only
returns-in-Some-from_name-clause-only c name h = one_name c.args.path.now (PayloadManifest c.in-Some-from_name.alg) name (search rules) h

pub returns-in-None-clause-only : goal.returns-in-None-clause-only
returns-in-None-clause-only c name h = one_name c.args.path.now UnknownManifest name (search rules) h

pub returns-in-Some-from_name-2-clause-only : goal.returns-in-Some-from_name-2-clause-only
returns-in-Some-from_name-2-clause-only c name h = one_name c.args.path.now (TagManifest c.in-Some-from_name-2.alg) name (search rules) h

pub returns-in-None-from_name-clause-only : goal.returns-in-None-from_name-clause-only
returns-in-None-from_name-clause-only c name h = one_name c.args.path.now UnknownManifest name (search rules) h
