mod Along
mod Hearing
mod Lists
mod Tables
