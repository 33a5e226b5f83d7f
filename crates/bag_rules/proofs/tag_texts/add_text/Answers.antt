use Rattle.bag_rules.proofs.LineFaults.{faults_told}
use Rattle.bag_rules.proofs.TextsRead.{text_read}
use Rattle.bag_rules.proofs.KeptLemmas.{on_ok_of}
use Rattle.bag_rules.proofs.Words.{on_ok_weaker}
use Rattle.bag_rules.proofs.tag_texts.add_text.Goals as goal

pub returns-clause-read : goal.returns-clause-read
returns-clause-read c = λ version octets reads.
    on_ok_weaker c.put_value.result (text_read version c.args.file octets c.args.read c.args.faults.now.items c.value_of.new.faults.items c.in_ok-value.value c.args.texts.now c.put_value.new.texts reads c.in_ok-value.ensures) c.put_value.ensures

pub returns-clause-faulty : goal.returns-clause-faulty
returns-clause-faulty c = λ version octets reads.
    on_ok_of c.put_value.result _ (faults_told version c.args.file octets c.args.read reads c.args.faults.now.items c.value_of.new.faults.items c.in_ok-value.value c.in_ok-value.ensures)
