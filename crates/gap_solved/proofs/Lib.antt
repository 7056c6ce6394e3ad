pub mod SectionLaws
