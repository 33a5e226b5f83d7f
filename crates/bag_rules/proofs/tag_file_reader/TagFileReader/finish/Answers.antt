use Rattle.bag_rules.proofs.tag_file_reader.TagFileReader.finish.Goals as goal

pub returns : goal.returns
returns c = λ version set octets taken count. record {
  sums = (count, c.finish.ensures set octets taken.hashed);
  too_many = c.are_too_many.ensures octets taken.counted;
  read = λ few. record {
    value = c.finish-2.ensures.value version c.args.self.file octets (taken.fed few);
    fault = c.finish-2.ensures.fault version c.args.self.file octets (taken.fed few);
  };
}
